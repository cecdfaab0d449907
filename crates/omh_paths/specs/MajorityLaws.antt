-- Wrapping, and what the majority of a list is.
use Rattle.std.proofs.Common.{◌≡◌, ◌≢◌, ◌<◌, ◌≤◌, ◌+◌, ◌*◌, Bool, true, false, not, List, [], ◌∷◌, refl, sym, ap, subst, ◌∙◌, inl, inr, arith, eq-eqb, eqb-true, ne_eqb, lt-ltb, ltb-true}
use Rattle.std.proofs.lemmas.Bool.{cases_Bool, and_parts, and_from, not-true, not_from_false, cond-true, cond-false, both_ways}
use Rattle.omh_paths.specs.declared.wrapped.Wrapped.{Wrapped}
use Rattle.omh_paths.specs.declared.wrapped.Wrapped.TheVariants.{Plain, Fault}
use Rattle.omh_paths.specs.Wrapped.{wrapped, unwrapped, same, IsExact, is_error}
use Rattle.node_grid.specs.Count.{bit, count}
use Rattle.omh_paths.specs.Majority.{has_majority, first_majority, majority, MajorityLaw}

pub unwrapped-wrapped : {V : Type 0} (x : Wrapped V) → unwrapped (wrapped x) ≡ x
unwrapped-wrapped (Plain v) = refl
unwrapped-wrapped (Fault k) = ap Fault (omega arith)

pub is_error-wrapped : {V : Type 0} (x : Wrapped V) → is_error (wrapped x) ≡ false
is_error-wrapped (Plain v) = refl
is_error-wrapped (Fault k) = ne_eqb (k + 1) 0 (omega arith)

pub same_itself : {V : Type 0} {eq : V → V → Bool} → IsExact eq → (x : Wrapped V) → same eq x x ≡ true
same_itself t (Plain x) = t.finds x
same_itself t (Fault k) = eq-eqb k k refl

pub same_tells : {V : Type 0} {eq : V → V → Bool} → IsExact eq → (x y : Wrapped V) → same eq x y ≡ true → x ≡ y
same_tells t (Plain x) (Plain y) h = ap Plain (t.tells x y h)
same_tells t (Fault j) (Fault k) h = ap Fault (eqb-true j k h)
same_tells t (Plain x) (Fault k) h = cc
same_tells t (Fault k) (Plain x) h = cc

two_bits : (a b c : Bool) → (a ≡ true → c ≡ true) → (b ≡ true → c ≡ true) → (a ≡ true → b ≡ true → ⊥) → bit a + bit b ≤ bit c
two_bits true true c p q r = absurd (r refl refl)
two_bits true false c p q r = omega (arith, ap bit (p refl))
two_bits false true c p q r = omega (arith, ap bit (q refl))
two_bits false false c p q r = omega arith

-- the places of two different values are no more than those of all values but Fault 0
two_values : {V : Type 0} {eq : V → V → Bool} → IsExact eq → (x y : Wrapped V) → is_error x ≡ false → is_error y ≡ false → same eq x y ≡ false
    → (all : List (Wrapped V)) → count (same eq x) all + count (same eq y) all ≤ count (λ z. not (is_error z)) all
two_values t x y ex ey d [] = omega arith
two_values {V} {eq} t x y ex ey d (z ∷ zs) =
    let here : bit (same eq x z) + bit (same eq y z) ≤ bit (not (is_error z)) =
    two_bits _ _ _
    (λ s. subst (λ (u : Wrapped V). not (is_error u) ≡ true) (same_tells t x z s) (not_from_false _ ex))
    (λ s. subst (λ (u : Wrapped V). not (is_error u) ≡ true) (same_tells t y z s) (not_from_false _ ey))
    (λ s r. both_ways _ d (subst (λ (u : Wrapped V). same eq x u ≡ true) (same_tells t x z s ∙ sym (same_tells t y z r)) (same_itself t x)))
    in let rest = two_values t x y ex ey d zs in omega arith

-- a value with a majority is the one that has_id it
majority_one : {V : Type 0} {eq : V → V → Bool} → IsExact eq → (all : List (Wrapped V)) (x v : Wrapped V) → has_majority eq all x ≡ true
    → is_error v ≡ false → count (λ z. not (is_error z)) all < 2 * count (same eq v) all → x ≡ v
majority_one {V} {eq} t all x v won ok most =
    let p = and_parts _ _ won in
    let big : count (λ z. not (is_error z)) all < 2 * count (same eq x) all = ltb-true _ _ p.1 in
    elim (cases_Bool (same eq x v)) [
      | inl s ↦ same_tells t x v s
      | inr d ↦ let two = two_values t x v (not-true _ p.0) ok d all in absurd (omega arith)
    ]

majority_from : {V : Type 0} (eq : V → V → Bool) (all : List (Wrapped V)) (v : Wrapped V) → is_error v ≡ false
    → count (λ z. not (is_error z)) all < 2 * count (same eq v) all → has_majority eq all v ≡ true
majority_from eq all v ok most = and_from _ _ (not_from_false _ ok) (lt-ltb _ _ most)

first_is : {V : Type 0} {eq : V → V → Bool} → IsExact eq → (all xs : List (Wrapped V)) (v : Wrapped V) → is_error v ≡ false
    → count (λ z. not (is_error z)) all < 2 * count (same eq v) all → 0 < count (same eq v) xs → first_majority eq all xs ≡ v
first_is t all [] v ok most some = absurd (omega arith)
first_is {V} {eq} t all (x ∷ xs) v ok most some =
    elim (cases_Bool (has_majority eq all x)) [
      | inl won ↦ cond-true _ _ _ won ∙ majority_one t all x v won ok most
      | inr lost ↦ cond-false _ _ _ lost ∙ first_is t all xs v ok most (elim (cases_Bool (same eq v x)) [
        | inl s ↦ absurd (both_ways _ lost (subst (λ (u : Wrapped V). has_majority eq all u ≡ true) (same_tells t v x s) (majority_from eq all v ok most)))
        | inr d ↦ omega (arith, ap bit d)
      ])
    ]

-- what stands at more than half of the places that aren't Fault 0 is the majority
pub majority_is : {V : Type 0} {eq : V → V → Bool} → IsExact eq → (all : List (Wrapped V)) (v : Wrapped V) → is_error v ≡ false
    → count (λ z. not (is_error z)) all < 2 * count (same eq v) all → majority eq all ≡ v
unfolding majority
majority_is t all v ok most = first_is t all all v ok most (omega arith)

pub not_error : {V : Type 0} (x : Wrapped V) → x ≢ Fault 0 → is_error x ≡ false
not_error (Plain v) h = refl
not_error (Fault k) h = ne_eqb k 0 (λ e. h (ap Fault e))

error_is : {V : Type 0} (x : Wrapped V) → is_error x ≡ false → x ≢ Fault 0
error_is {V} x h e = both_ways _ h (ap (is_error {V = V}) e)

first_none : {V : Type 0} (eq : V → V → Bool) (all xs : List (Wrapped V)) → ((x : Wrapped V) → has_majority eq all x ≡ false) → first_majority eq all xs ≡ Fault 1
first_none eq all [] h = refl
first_none eq all (x ∷ xs) h = cond-false _ _ _ (h x) ∙ first_none eq all xs h

pub majority_law : {V : Type 0} (eq : V → V → Bool) → IsExact eq → MajorityLaw eq
unfolding majority
majority_law {V} eq exact all = (
  λ x ne most. majority_is exact all x (not_error x ne) most,
  λ few. first_none eq all all (λ x. elim (cases_Bool (has_majority eq all x)) [
    | inl won ↦
        let p = and_parts _ _ won in
        let big : count (λ z. not (is_error z)) all < 2 * count (same eq x) all = ltb-true _ _ p.1 in
        let small = few x (error_is x (not-true _ p.0)) in
        absurd (omega arith)
    | inr lost ↦ lost
  ]),
)

first_sound : {V : Type 0} (eq : V → V → Bool) (all xs : List (Wrapped V)) → is_error (first_majority eq all xs) ≡ false
first_sound eq all [] = refl
first_sound {V} eq all (x ∷ xs) =
    elim (cases_Bool (has_majority eq all x)) [
      | inl won ↦ ap (is_error {V = V}) (cond-true _ _ _ won) ∙ not-true _ (and_parts _ _ won).0
      | inr lost ↦ ap (is_error {V = V}) (cond-false _ _ _ lost) ∙ first_sound eq all xs
    ]

-- the majority is never the error itself
pub majority_sound : {V : Type 0} (eq : V → V → Bool) (all : List (Wrapped V)) → majority eq all ≢ Fault 0
unfolding majority
majority_sound {V} eq all e = both_ways _ (first_sound eq all all) (ap (is_error {V = V}) e)

-- where no value has the majority
pub majority_none : {V : Type 0} (eq : V → V → Bool) (all : List (Wrapped V)) → ((x : Wrapped V) → has_majority eq all x ≡ false) → majority eq all ≡ Fault 1
unfolding majority
majority_none eq all h = first_none eq all all h
