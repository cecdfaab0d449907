-- The majority of terms that are one value or the error.
use Rattle.std.proofs.Common.{ℕ, ◌≡◌, ◌<◌, ◌≤◌, ◌+◌, ◌*◌, Bool, true, false, not, List, [], ◌∷◌, map, refl, sym, ap, subst, ◌∙◌, inl, inr, arith}
use Rattle.std.specs.Prelude.{if◌then◌else◌}
use Rattle.std.specs.List.{AllByRecursion}
use Rattle.std.proofs.lemmas.Bool.{cases_Bool, not_from_false}
use Rattle.node_grid.specs.Count.{bit, count}
use Rattle.omh_paths.specs.declared.wrapped.Wrapped.{Wrapped}
use Rattle.omh_paths.specs.declared.wrapped.Wrapped.TheVariants.{Fault}
use Rattle.omh_paths.specs.Wrapped.{same, is_error, IsExact}
use Rattle.omh_paths.specs.Majority.{majority}
use Rattle.omh_paths.specs.MajorityLaws.{same_itself, same_tells, majority_is, majority_law, not_error}
use Rattle.omh_paths.specs.Facts.{other_error}

pub count_le : (f g : ℕ → Bool) (xs : List ℕ) → AllByRecursion (λ q. f q ≡ true → g q ≡ true) xs → count f xs ≤ count g xs
count_le f g [] h = omega arith
count_le f g (x ∷ xs) h =
    let rest = count_le f g xs h.1 in
    elim (cases_Bool (f x)) [
      | inl on ↦ let a = ap bit on in let b = ap bit (h.0 on) in omega arith
      | inr off ↦ let a = ap bit off in omega arith
    ]

pub count_none : (f : ℕ → Bool) (xs : List ℕ) → AllByRecursion (λ q. f q ≡ false) xs → count f xs ≡ 0
count_none f [] h = refl
count_none f (x ∷ xs) h = let a = ap bit h.0 in let rest = count_none f xs h.1 in omega arith

-- the value where the test passes, and else the error
abbrev pub where_passes : {V : Type 0} → (ℕ → Bool) → Wrapped V → ℕ → Wrapped V
where_passes test w q = if test q then w else Fault 0

good_bit : {V : Type 0} (w : Wrapped V) → is_error w ≡ false → (b : Bool) → bit (not (is_error (if b then w else Fault 0))) ≡ bit b
good_bit w ok true = ap (λ (e : Bool). bit (not e)) ok
good_bit w ok false = refl

same_bit : {V : Type 0} {eq : V → V → Bool} → IsExact eq → (w : Wrapped V) → is_error w ≡ false → (b : Bool) → bit (same eq w (if b then w else Fault 0)) ≡ bit b
same_bit exact w ok true = ap bit (same_itself exact w)
same_bit {V} {eq} exact w ok false = ap bit (other_error eq w ok)

good_terms : {V : Type 0} (test : ℕ → Bool) (w : Wrapped V) → is_error w ≡ false → (xs : List ℕ) → count (λ t. not (is_error t)) (map (where_passes test w) xs) ≡ count test xs
good_terms test w ok [] = refl
good_terms test w ok (x ∷ xs) = let here = good_bit w ok (test x) in let rest = good_terms test w ok xs in omega arith

same_terms : {V : Type 0} {eq : V → V → Bool} → IsExact eq → (test : ℕ → Bool) (w : Wrapped V) → is_error w ≡ false → (xs : List ℕ) → count (same eq w) (map (where_passes test w) xs) ≡ count test xs
same_terms exact test w ok [] = refl
same_terms exact test w ok (x ∷ xs) = let here = same_bit exact w ok (test x) in let rest = same_terms exact test w ok xs in omega arith

few_same : {V : Type 0} {eq : V → V → Bool} → IsExact eq → (x : Wrapped V) → is_error x ≡ false → (all : List (Wrapped V)) → count (same eq x) all ≤ count (λ t. not (is_error t)) all
few_same exact x ok [] = omega arith
few_same {V} {eq} exact x ok (t ∷ ts) =
    let rest = few_same exact x ok ts in
    elim (cases_Bool (same eq x t)) [
      | inl on ↦
          let a = ap bit on in
          let b : bit (not (is_error t)) ≡ 1 = ap bit (subst (λ (u : Wrapped V). not (is_error u) ≡ true) (same_tells exact x t on) (not_from_false _ ok)) in
          omega arith
      | inr off ↦ let a = ap bit off in omega arith
    ]

-- the value is the majority where the test passes somewhere
pub majority_passes : {V : Type 0} {eq : V → V → Bool} → IsExact eq → (test : ℕ → Bool) (w : Wrapped V) → is_error w ≡ false → (xs : List ℕ) → 0 < count test xs → majority eq (map (where_passes test w) xs) ≡ w
majority_passes exact test w ok xs some =
    let g = good_terms test w ok xs in
    let s = same_terms exact test w ok xs in
    majority_is exact (map (where_passes test w) xs) w ok (omega arith)

pub majority_lacks : {V : Type 0} {eq : V → V → Bool} → IsExact eq → (test : ℕ → Bool) (w : Wrapped V) → is_error w ≡ false → (xs : List ℕ) → count test xs ≡ 0 → majority eq (map (where_passes test w) xs) ≡ Fault 1
majority_lacks {V} {eq} exact test w ok xs none =
    let g = good_terms test w ok xs in
    (majority_law eq exact (map (where_passes test w) xs)).1 (λ x ne. let f = few_same exact x (not_error x ne) (map (where_passes test w) xs) in omega arith)
