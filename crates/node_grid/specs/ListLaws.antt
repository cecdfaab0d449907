-- Lists and tests: one more element, one at a place, and what passes for each member.
use Rattle.std.proofs.Common.{◌≡◌, ℕ, zero, suc, ◌+◌, ◌*◌, ◌/◌, ◌<◌, ◌≤◌, Bool, true, false, ◌||◌, List, [], ◌∷◌, ◌++◌, length, take, get_or, refl, sym, ap, ◌∙◌, inl, inr, arith, eq-eqb, eqb-true}
use Rattle.std.specs.Prelude.{◌==◌, nat_lt}
use Rattle.std.specs.List.{list_all}
use Rattle.std.proofs.Math.Bool.{or-false, or_assoc}
use Rattle.std.proofs.lemmas.Bool.{and_parts, or_cases, or_left, or_right}
use Rattle.std.proofs.lemmas.Bool.Decides.{nat_tests}
use Rattle.std.proofs.lemmas.List.{take_more}
use Rattle.node_grid.specs.NodeSet.{has_id}
use Rattle.node_grid.specs.Count.{count, bit}

pub bit_le : (b : Bool) → bit b ≤ 1
bit_le true = omega arith
bit_le false = omega arith

pub count-more : {X : Type 0} (test : X → Bool) (xs : List X) (x : X) → count test (xs ++ x ∷ []) ≡ count test xs + bit (test x)
count-more test [] x = omega arith
count-more test (y ∷ xs) x = omega (arith, count-more test xs x)

pub all_at : (f : ℕ → Bool) (xs : List ℕ) (k : ℕ) → list_all f xs ≡ true → has_id xs k ≡ true → f k ≡ true
all_at f [] k h on = cc
all_at f (x ∷ xs) k h on = let p = and_parts _ _ h in elim (or_cases (x == k) (has_id xs k) on) [
  | inl e ↦ ap f (sym (eqb-true x k e)) ∙ p.0
  | inr later ↦ all_at f xs k p.1 later
]

-- ---- tests of numbers, the other way round

pub eqb_sym : (x y : ℕ) → (x == y) ≡ (y == x)
eqb_sym x y = grind (arith, nat_tests)

pub half_less : (x y : ℕ) → nat_lt (x / 2) y ≡ nat_lt x (2 * y)
half_less x y = grind (arith, nat_tests)

-- ---- members of lists

pub has_push : (xs : List ℕ) (x k : ℕ) → has_id (xs ++ x ∷ []) k ≡ (has_id xs k || (x == k))
has_push [] x k = or-false (x == k)
has_push (y ∷ xs) x k = ap (λ b. (y == k) || b) (has_push xs x k) ∙ sym (or_assoc (y == k) (has_id xs k) (x == k))

pub has_at : (xs : List ℕ) (k : ℕ) → k < length xs → has_id xs (get_or xs k 0) ≡ true
has_at [] k h = absurd (omega arith)
has_at (x ∷ xs) zero h = or_left _ _ (eq-eqb x x refl)
has_at (x ∷ xs) (suc k) h = or_right _ _ (has_at xs k (omega arith))

pub has_some : (xs : List ℕ) (x : ℕ) → has_id xs x ≡ true → 0 < length xs
has_some [] x h = cc
has_some (y ∷ xs) x h = omega arith

-- ---- counts in a loop

pub count_next : {X : Type 0} (test : X → Bool) (xs : List X) (k : ℕ) (x : X) → k < length xs → x ≡ get_or xs k x
    → count test (take (k + 1) xs) ≡ count test (take k xs) + bit (test x)
count_next test xs k x here is =
    ap (count test) (take_more xs k x here) ∙ count-more test (take k xs) (get_or xs k x) ∙ ap (λ y. count test (take k xs) + bit (test y)) (sym is)
