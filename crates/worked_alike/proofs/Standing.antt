-- Clocks that stand still, and are read without an error.
use Rattle.std.proofs.Common.{ℕ, zero, suc, ◌≡◌, ◌≤◌, ◌%◌, ℤ, pos, List, [], ◌∷◌, length, refl, ap, arith}
use Rattle.std.specs.Prelude.{All, replicate, slice_index_or, ◌^◌}
use Rattle.std.proofs.lemmas.Nat.{mod_below}
use Rattle.clock_skew.specs.Clock.{LieView, IsLie, IsClock, IsUpTo, AreUpTo, AreNear, clock_of, row_in_turn}

abbrev pub zeros : List ℤ
zeros = replicate 16 (pos 0)

none : (n i : ℕ) → slice_index_or (replicate n (pos 0)) i (pos 0) ≡ pos 0
none zero i = refl
none (suc n) zero = refl
none (suc n) (suc i) = none n i

one_row : (k : ℕ) → row_in_turn (zeros ∷ []) k ≡ zeros
one_row k = let e : k % 1 ≡ 0 = omega (arith, mod_below k 1 (omega arith)) in ap (λ j. slice_index_or (zeros ∷ []) j []) e

up_to : (limit : ℤ) → IsUpTo limit (pos 0) → AreUpTo 12 limit zeros
up_to limit near = λ i low. rw (none 16 i) near

all_near : AreNear 12 (pos 0) zeros
all_near = λ i j low low_too. rw (none 16 i, none 16 j) (search)

pub standing : (lies : List LieView) → length lies ≤ 4096 → All (IsLie 12) lies → IsClock 16 (clock_of 12 (pos 0) (pos 0) zeros (zeros ∷ []) (zeros ∷ []) lies)
standing lies few are = record {
  nodes = omega arith;
  epsilon = (search, search);
  drift = (search, search);
  start = up_to (pos (2 ^ 40)) (search, search);
  some_drifts = omega arith;
  few_drifts = omega arith;
  drifts = λ p. rw (one_row p) (up_to (pos (2 ^ 20)) (search, search));
  close_drifts = λ p. rw (one_row p) all_near;
  some_errors = omega arith;
  few_errors = omega arith;
  errors = λ p. rw (one_row p) (up_to (pos 0) (search, search));
  few_lies = few;
  lies = are;
}
