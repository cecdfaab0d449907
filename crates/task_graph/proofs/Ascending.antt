-- A list whose every number is less than the next, by places.
use Rattle.std.proofs.Common.{◌≡◌, ℕ, zero, suc, ◌+◌, ◌-◌, ◌<◌, ◌≤◌, true, false, List, [], ◌∷◌, length, get_or, refl, sym, inl, inr, arith}
use Rattle.std.proofs.lemmas.Bool.{cases_lt, lt-ltb, le-ltb}
use Rattle.std.specs.Prelude.{nat_lt}
use Rattle.task_graph.specs.Graph.{is_ascending}
use Rattle.std.proofs.Math.Bool.{and-false}

pub ascends_throughout : (xs : List ℕ) → ((j : ℕ) → suc j < length xs → get_or xs j 0 < get_or xs (suc j) 0) → is_ascending xs ≡ true
ascends_throughout [] h = refl
ascends_throughout (x ∷ []) h = refl
ascends_throughout (x ∷ y ∷ ys) h =
    let first : nat_lt x y ≡ true = lt-ltb x y (h 0 (omega arith)) in
    let rest : is_ascending (y ∷ ys) ≡ true = ascends_throughout (y ∷ ys) (λ j l. h (suc j) (omega arith)) in
    rw (first, rest) refl

pub falls_somewhere : (xs : List ℕ) (j : ℕ) → suc j < length xs → get_or xs (suc j) 0 ≤ get_or xs j 0 → is_ascending xs ≡ false
falls_somewhere [] j l h = absurd (omega arith)
falls_somewhere (x ∷ []) j l h = absurd (omega arith)
falls_somewhere (x ∷ y ∷ ys) zero l h = rw (le-ltb x y h) refl
falls_somewhere (x ∷ y ∷ ys) (suc j) l h =
    let rest : is_ascending (y ∷ ys) ≡ false = falls_somewhere (y ∷ ys) j (omega arith) h in
    rw rest (and-false (nat_lt x y))

-- what the loop finds at place k
pub falls_at : (xs : List ℕ) (k : ℕ) → 1 ≤ k → k < length xs → get_or xs k 0 ≤ get_or xs (k - 1) 0 → false ≡ is_ascending xs
falls_at xs zero l h f = absurd (omega arith)
falls_at xs (suc j) l h f = sym (falls_somewhere xs j h (rw (less_one j) at f))
  where
    less_one : (j : ℕ) → suc j - 1 ≡ j
    less_one j = omega arith

pub rises_more : (xs : List ℕ) (k : ℕ) → 1 ≤ k → ((j : ℕ) → suc j < k → get_or xs j 0 < get_or xs (suc j) 0) → get_or xs (k - 1) 0 < get_or xs k 0
    → (j : ℕ) → suc j < k + 1 → get_or xs j 0 < get_or xs (suc j) 0
rises_more xs k l before here j h = elim (cases_lt (suc j) k) [
  | inl below ↦ before j below
  | inr at ↦ let e : k ≡ suc j = omega arith in let d : k - 1 ≡ j = omega arith in rw (← e, ← d) here
]
