-- How one more term changes the counts of terms.
use Rattle.std.proofs.Common.{ℕ, ◌≡◌, ◌≤◌, ◌+◌, Bool, true, false, not, List, [], ◌∷◌, ◌++◌, ap, ◌∙◌, inl, inr, arith}
use Rattle.std.proofs.lemmas.Bool.{cases_Bool, both_ways}
use Rattle.node_grid.specs.Count.{bit, count}
use Rattle.node_grid.specs.ListLaws.{count-more}
use Rattle.omh_paths.specs.declared.wrapped.Wrapped.{Wrapped}
use Rattle.omh_paths.specs.Wrapped.{same, IsExact, is_error}
use Rattle.omh_paths.specs.MajorityLaws.{same_tells}

-- those that are no error
abbrev pub votes : {V : Type 0} → List (Wrapped V) → ℕ
votes seen = count (λ y. not (is_error y)) seen

pub votes-error : {V : Type 0} (seen : List (Wrapped V)) (v : Wrapped V) → is_error v ≡ true → votes (seen ++ v ∷ []) ≡ votes seen
votes-error seen v e = let k = count-more (λ y. not (is_error y)) seen v in let b : bit (not (is_error v)) ≡ 0 = ap (λ b. bit (not b)) e in omega arith

pub votes-more : {V : Type 0} (seen : List (Wrapped V)) (v : Wrapped V) → is_error v ≡ false → votes (seen ++ v ∷ []) ≡ votes seen + 1
votes-more seen v e = let k = count-more (λ y. not (is_error y)) seen v in let b : bit (not (is_error v)) ≡ 1 = ap (λ b. bit (not b)) e in omega arith

pub count-yes : {V : Type 0} (eq : V → V → Bool) (y : Wrapped V) (seen : List (Wrapped V)) (v : Wrapped V) → same eq y v ≡ true → count (same eq y) (seen ++ v ∷ []) ≡ count (same eq y) seen + 1
count-yes eq y seen v e = let k = count-more (same eq y) seen v in let b : bit (same eq y v) ≡ 1 = ap bit e in omega arith

pub count-no : {V : Type 0} (eq : V → V → Bool) (y : Wrapped V) (seen : List (Wrapped V)) (v : Wrapped V) → same eq y v ≡ false → count (same eq y) (seen ++ v ∷ []) ≡ count (same eq y) seen
count-no eq y seen v e = let k = count-more (same eq y) seen v in let b : bit (same eq y v) ≡ 0 = ap bit e in omega arith

pub count-at_most : {V : Type 0} (eq : V → V → Bool) (y : Wrapped V) (seen : List (Wrapped V)) (v : Wrapped V) → count (same eq y) (seen ++ v ∷ []) ≤ count (same eq y) seen + 1
count-at_most eq y seen v = elim (cases_Bool (same eq y v)) [ inl s ↦ omega (arith, count-yes eq y seen v s) | inr d ↦ omega (arith, count-no eq y seen v d) ]

-- an error is no other value
pub apart : {V : Type 0} {eq : V → V → Bool} → IsExact eq → (y v : Wrapped V) → is_error y ≡ false → is_error v ≡ true → same eq y v ≡ false
apart {V} {eq} exact y v ey ev = elim (cases_Bool (same eq y v)) [
  | inl s ↦ absurd (both_ways _ ey (ap (is_error {V = V}) (same_tells exact y v s) ∙ ev))
  | inr d ↦ d
]
