-- Lifetimes as goals list them.
use Rattle.std.proofs.Common.{ℕ, List, [], ◌++◌, append-nil}
use mathlib.Core.List.{Mem}
use base.Meet.{within_both}

-- what is in a list twice over is in it
pub twice : (s : List ℕ) (a : ℕ) → Mem a (s ++ s) → Mem a s
twice s a m = within_both s s s (λ b x. x) (λ b x. x) a m

-- and what is in it with nothing behind it
pub alone : (s : List ℕ) (a : ℕ) → Mem a (((s ++ []) ++ []) ++ []) → Mem a s
alone s a m = simp append-nil at m
