use Rattle.std.proofs.Common.{◌≡◌, ℕ, ◌*◌, ◌<◌, get_or}
use Rattle.frames.proofs.pieces.are_small.Given as goal

abbrev pub invariant-loop-k : goal.invariant-loop-k
invariant-loop-k l = (j : ℕ) → j < 4 * l.k → get_or l.bytes (2 * j) 0 ≡ 0

abbrev pub invariant-loop-k-2 : goal.invariant-loop-k-2
invariant-loop-k-2 l = (j : ℕ) → j < l.k → get_or l.bytes (2 * j) 0 ≡ 0
