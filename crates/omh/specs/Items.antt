-- What the laws say of the members' items.
use Rattle.std.proofs.Common.{ℕ, ◌≡◌, ◌≢◌, ◌≤◌, Bool, true, false, ◌&&◌, ◌||◌, if◌then◌else◌, List, [], ◌∷◌, refl, sym, ap, ◌∙◌, inl, inr, arith, eq-eqb, ne_eqb}
use Rattle.std.proofs.lemmas.Bool.{cases_eq, cond-true, cond-false}
use Rattle.omh_paths.specs.declared.wrapped.Wrapped.TheVariants.{Plain, Fault}
use Rattle.omh_paths.specs.Wrapped.{IsExact}
use Rattle.node_grid.specs.Count.{bit, count, Distinct}
use Rattle.node_grid.specs.NodeSet.{has_id}
use Rattle.omh_paths.specs.Facts.{root}
use Rattle.omh.specs.Omh.{World, settled, settled_item, Hears, counted_nodes}
use Rattle.node_grid.specs.declared.class.Class.{Class}
use Rattle.node_grid.specs.Class.{is_nonfaulty, is_silent, is_symmetric, is_asymmetric, is_sound, IsEnough}
use Rattle.omh.specs.Laws.{ItemsAgree, ItemsStand, ItemsFail, ListenersLaw}
use Rattle.omh_paths.specs.PathLists.{outside_nothing}
use Rattle.omh_paths.specs.PathLaws.{count-outside}
use Rattle.omh.specs.Counting.{length_by_class}
use Rattle.omh.specs.Settling.{sound_cases, silent_sound, nonfaulty_sound, uniform_law, agreement_law}

count_all : (test : ℕ → Bool) (members : List ℕ) (c : ℕ) → Distinct members → has_id members c ≡ true → count test (counted_nodes members [] c) ≡ count test members
count_all test members c d member =
    let e = count-outside test members [] c d refl in
    let f : bit (has_id members c && test c) ≡ bit (test c) = ap (λ b. bit (b && test c)) member in
    let g = ap (count test) (outside_nothing members) in
    omega arith

enough_root : (class_of : ℕ → Class) (members : List ℕ) (c r : ℕ) → Distinct members → has_id members c ≡ true → IsEnough class_of members r → IsEnough class_of (counted_nodes members [] c) r
enough_root class_of members c r d member enough =
    let a = count_all (λ q. is_asymmetric (class_of q)) members c d member in
    let s = count_all (λ q. is_symmetric (class_of q)) members c d member in
    let n = count_all (λ q. is_nonfaulty (class_of q)) members c d member in
    let b = count_all (λ q. is_silent (class_of q)) members c d member in
    let split = length_by_class class_of members in
    let grown = length_by_class class_of (counted_nodes members [] c) in
    omega arith

few_root : (class_of : ℕ → Class) (members : List ℕ) (c r : ℕ) → Distinct members → has_id members c ≡ true → count (λ q. is_asymmetric (class_of q)) members ≤ r → count (λ q. is_asymmetric (class_of q)) (counted_nodes members [] c) ≤ r
few_root class_of members c r d member few = let a = count_all (λ q. is_asymmetric (class_of q)) members c d member in omega arith

pub hears : {class_of : ℕ → Class} (c i : ℕ) → is_sound (class_of i) ≡ true → c ≢ i → Hears class_of (c ∷ []) i
hears c i s ne = record { sound = s; off = ap (λ b. b || false) (ne_eqb c i ne) }

item_own : {V : Type 0} (eq : V → V → Bool) (w : World V) (item : ℕ → V) (c i : ℕ) → c ≡ i → settled_item eq w item i c ≡ (if w.is_full c then Plain (item c) else Fault 0)
item_own eq w item c i e = cond-true _ _ _ (eq-eqb c i e)

item_other : {V : Type 0} (eq : V → V → Bool) (w : World V) (item : ℕ → V) (c i : ℕ) → c ≢ i → settled_item eq w item i c ≡ settled eq w i (c ∷ [])
item_other eq w item c i ne = cond-false _ _ _ (ne_eqb c i ne)

pub items_stand : {V : Type 0} (eq : V → V → Bool) → IsExact eq → ItemsStand eq
items_stand eq exact w class_of item claimed c i member n sound =
    let fits = claimed.fits in
    elim (cases_eq c i) [
      | inl own ↦ item_own eq w item c i own ∙ cond-true _ _ _ (fits.full c member n)
      | inr ne ↦ item_other eq w item c i ne
          ∙ uniform_law eq exact w class_of item fits [] c w.rounds (root c member) refl (enough_root class_of w.members c w.rounds fits.distinct member claimed.within.enough)
          (Plain (item c)) (λ k hk. fits.tells c k (root c member) n hk) i (hears c i sound ne)
    ]

pub items_fail : {V : Type 0} (eq : V → V → Bool) → IsExact eq → ItemsFail eq
items_fail eq exact w class_of item claimed c i member silent sound =
    let fits = claimed.fits in
    elim (cases_eq c i) [
      | inl own ↦ item_own eq w item c i own ∙ cond-false _ _ _ (fits.not_full c member (silent_sound _ (ap (λ (k : ℕ). is_sound (class_of k)) own ∙ sound) silent))
      | inr ne ↦ item_other eq w item c i ne
          ∙ uniform_law eq exact w class_of item fits [] c w.rounds (root c member) refl (enough_root class_of w.members c w.rounds fits.distinct member claimed.within.enough)
          (Fault 0) (λ k hk. fits.silent [] c k (root c member) silent hk) i (hears c i sound ne)
    ]

pub items_agree : {V : Type 0} (eq : V → V → Bool) → IsExact eq → ItemsAgree eq
items_agree {V} eq exact w class_of item claimed c i j member si sj =
    let fits = claimed.fits in
    let by_sound : is_sound (class_of c) ≡ true → settled_item eq w item i c ≡ settled_item eq w item j c =
    λ s. elim (sound_cases (class_of c) s) [
      | inl n ↦ items_stand eq exact w class_of item claimed c i member n si ∙ sym (items_stand eq exact w class_of item claimed c j member n sj)
      | inr b ↦ items_fail eq exact w class_of item claimed c i member (ap is_silent b) si ∙ sym (items_fail eq exact w class_of item claimed c j member (ap is_silent b) sj)
    ]
    in elim (cases_eq c i) [
      | inl ci ↦ by_sound (ap (λ (k : ℕ). is_sound (class_of k)) ci ∙ si)
      | inr ni ↦ elim (cases_eq c j) [
        | inl cj ↦ by_sound (ap (λ (k : ℕ). is_sound (class_of k)) cj ∙ sj)
        | inr nj ↦ item_other eq w item c i ni
            ∙ agreement_law eq exact w class_of item fits [] c w.rounds (root c member) refl (enough_root class_of w.members c w.rounds fits.distinct member claimed.within.enough)
            (few_root class_of w.members c w.rounds fits.distinct member claimed.within.few) i j (hears c i si ni) (hears c j sj nj)
            ∙ sym (item_other eq w item c j nj)
      ]
    ]

pub listeners_law : {V : Type 0} (eq : V → V → Bool) → IsExact eq → ListenersLaw eq
listeners_law eq exact w class_of item claimed c i j member sound listens jm jn = items_agree eq exact w class_of item claimed c i j member sound (nonfaulty_sound _ jn)
