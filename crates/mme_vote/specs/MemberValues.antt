-- Values of members: that there is one within the budget, and what all of them pass.
use Rattle.std.proofs.Common.{ℕ, ◌≡◌, ◌<◌, ◌+◌, Bool, true, List, [], ◌∷◌, length, Option, None, Some, ℤ, refl, sym, ap, subst, ◌∙◌, inl, inr, arith, eqb-true, eq-eqb}
use Rattle.std.specs.Prelude.{◌==◌}
use Rattle.std.specs.List.{filter_map, cons_option, All}
use Rattle.std.proofs.lemmas.Bool.{cases_Bool, or_left, or_right, or_cases}
use Rattle.std.proofs.lemmas.List.Elements.{All-nil, All-cons}
use Rattle.node_grid.specs.declared.class.Class.{Class}
use Rattle.node_grid.specs.declared.class.Class.TheVariants.{N, J, B, S, A}
use Rattle.node_grid.specs.Class.{is_nonfaulty, is_silent, is_symmetric, is_asymmetric, IsWithin}
use Rattle.node_grid.specs.NodeSet.{has_id}
use Rattle.node_grid.specs.Count.{bit, count}
use Rattle.node_grid.specs.TruthFacts.{is_n}
use Rattle.mme_vote.specs.Members.{if_test}

pub has_first : (k : ℕ) (ks : List ℕ) → has_id (k ∷ ks) k ≡ true
has_first k ks = or_left _ _ (eq-eqb k k refl)

pub has_later : (j k : ℕ) (ks : List ℕ) → has_id ks j ≡ true → has_id (k ∷ ks) j ≡ true
has_later j k ks on = or_right (k == j) _ on

by_class : (class_of : ℕ → Class) (ks : List ℕ)
    → count (λ q. is_nonfaulty (class_of q)) ks + count (λ q. is_symmetric (class_of q)) ks + count (λ q. is_asymmetric (class_of q)) ks + count (λ q. is_silent (class_of q)) ks ≡ length ks
by_class class_of [] = refl
by_class class_of (k ∷ ks) = let one = one_class (class_of k) in let rest = by_class class_of ks in omega arith where
  one_class : (c : Class) → bit (is_nonfaulty c) + bit (is_symmetric c) + bit (is_asymmetric c) + bit (is_silent c) ≡ 1
  one_class N = refl
  one_class J = refl
  one_class B = refl
  one_class S = refl
  one_class A = refl

some_passes : (f : ℕ → Bool) (qs : List ℕ) → 0 < count f qs → (q : ℕ) × (has_id qs q ≡ true) × (f q ≡ true)
some_passes f [] h = absurd (omega arith)
some_passes f (q ∷ qs) h = elim (cases_Bool (f q)) [
  | inl is ↦ (q, has_first q qs, is)
  | inr isnt ↦
      let e : bit (f q) ≡ 0 = ap bit isnt in
      let r = some_passes f qs (omega arith) in
      (r.0, has_later r.0 q qs r.1, r.2)
]

-- within the budget there is a nonfaulty member
pub some_nonfaulty : (class_of : ℕ → Class) (ks : List ℕ) (m : ℕ) → IsWithin class_of ks m → (k : ℕ) × (has_id ks k ≡ true) × (class_of k ≡ N)
some_nonfaulty class_of ks m w =
    let all = by_class class_of ks in let e = w.enough in
    let r = some_passes (λ q. is_nonfaulty (class_of q)) ks (omega arith) in
    (r.0, r.1, is_n (class_of r.0) r.2)

length_cons : (o : Option ℤ) (xs : List ℤ) → length xs < length (cons_option o xs) + 1
length_cons None xs = omega arith
length_cons (Some v) xs = omega arith

-- a value of a member is among the values
pub some_value : (f : ℕ → Option ℤ) (qs : List ℕ) (k : ℕ) (v : ℤ) → has_id qs k ≡ true → f k ≡ Some v → 0 < length (filter_map f qs)
some_value f [] k v on h = cc
some_value f (q ∷ qs) k v on h = elim (or_cases (q == k) (has_id qs k) on) [
  | inl e ↦ subst (λ (o : Option ℤ). 0 < length (cons_option o (filter_map f qs))) (sym (ap f (eqb-true q k e) ∙ h)) (omega arith)
  | inr later ↦ let r = some_value f qs k v later h in let l = length_cons (f q) (filter_map f qs) in omega arith
]

All-cons_option : (P : ℤ → Type 0) (o : Option ℤ) (xs : List ℤ) → ((v : ℤ) → o ≡ Some v → P v) → All P xs → All P (cons_option o xs)
All-cons_option P None xs h all = all
All-cons_option P (Some v) xs h all = All-cons P v xs (h v refl) all

pub All-values : (P : ℤ → Type 0) (f : ℕ → Option ℤ) (qs : List ℕ) → ((q : ℕ) (v : ℤ) → has_id qs q ≡ true → f q ≡ Some v → P v) → All P (filter_map f qs)
All-values P f [] h = All-nil P
All-values P f (q ∷ qs) h = All-cons_option P (f q) (filter_map f qs) (λ v e. h q v (has_first q qs) e) (All-values P f qs (λ x v on e. h x v (has_later x q qs on) e))

-- a value that is taken of nonfaulty members alone is that member's own
pub good_value : (c : Class) (v : Option ℤ) (x own : ℤ) → (c ≡ N → v ≡ Some own) → if_test (is_nonfaulty c) v ≡ Some x → (c ≡ N) × (own ≡ x)
good_value N v x own h e = let f = h refl in (refl, cc)
good_value J v x own h e = cc
good_value B v x own h e = cc
good_value S v x own h e = cc
good_value A v x own h e = cc
