-- Lemmas for callers: how many bytes a stretch with others in it has, and that they are bytes.
use Rattle.std.proofs.Common.{ℕ, zero, suc, ◌≡◌, ◌<◌, ◌+◌, ◌-◌, Bool, true, false, ◌&&◌, List, [], ◌∷◌, length, get_or, refl, ap}
use Rattle.std.specs.Prelude.{nat_le, nat_lt, if◌then◌else◌}
use Rattle.frames.specs.PieceLaws.{AreBytes}
use Rattle.touched_items.specs.Overlaid.{overlaid}

pub length-overlaid : (at : ℕ) (bytes : List ℕ) (from : ℕ) (xs : List ℕ) → length (overlaid at bytes from xs) ≡ length xs
length-overlaid at bytes from [] = refl
length-overlaid at bytes from (x ∷ xs) = ap suc (length-overlaid at bytes (suc from) xs)

one_of : (c : Bool) (a b : ℕ) → a < 256 → b < 256 → (if c then a else b) < 256
one_of true a b h k = h
one_of false a b h k = k

pub bytes-overlaid : (at : ℕ) (bytes : List ℕ) (from : ℕ) (xs : List ℕ) → AreBytes bytes → AreBytes xs → AreBytes (overlaid at bytes from xs)
bytes-overlaid at bytes from [] b h i = h i
bytes-overlaid at bytes from (x ∷ xs) b h zero = one_of (nat_le at from && nat_lt from (at + length bytes)) (get_or bytes (from - at) 0) x (b (from - at)) (h 0)
bytes-overlaid at bytes from (x ∷ xs) b h (suc i) = bytes-overlaid at bytes (suc from) xs b (λ (j : ℕ). h (suc j)) i
