-- Facts that several crates cite.
use Rattle.std.proofs.Common.{Bool, List, None, Option, Some, [], ap, ap₂, arith, eq-eqb, false, inl, inr, map, pos, refl, suc, sym, true, zero, ℕ, ◌+◌, ◌<◌, ◌==◌, ◌||◌, ◌∙◌, ◌∷◌, ◌≡◌, ◌≤◌}
use Rattle.std.proofs.lemmas.Bool.{and_from, cases_eq, lt-ltb, ne_eqb}
use Rattle.std.proofs.lemmas.Int.{ints}
use Rattle.std.specs.List.{AllByRecursion}
use Rattle.std.specs.Ordering.{int_eq}
use Rattle.std.specs.Prelude.{if◌then◌else◌}
use Rattle.hex.specs.Hex.{IsBytes}
use Rattle.node_grid.specs.NodeSet.{has_id}
use Rattle.node_grid.specs.NumberFacts.{not_above}
use Rattle.scenario.specs.Line.{is_span}
use Rattle.scenario.specs.Numbers.{has_number}
use Rattle.scenario.specs.Parts.{ScenarioParts}
use Rattle.scenario.specs.Rules.{at_place, first_bad, unless}

pub bytes_at : (bs : List ℕ) → AllByRecursion (λ b. b < 256) bs → IsBytes bs
bytes_at [] h i = omega arith
bytes_at (b ∷ bs) h zero = h.0
bytes_at (b ∷ bs) h (suc i) = bytes_at bs h.1 i

pub good_first : {X : Type 0} (test : ℕ → X → Bool) (k : ℕ) (x : X) (xs : List X) (b : Bool) → test k x ≡ b → first_bad test k (x ∷ xs) ≡ None → (test k x ≡ true) × (first_bad test (k + 1) xs ≡ None)
good_first test k x xs true e h = (e, sym (ap (λ t. if t then first_bad test (k + 1) xs else Some k) e) ∙ h)
good_first test k x xs false e h = let bad : Some k ≡ None = sym (ap (λ t. if t then first_bad test (k + 1) xs else Some k) e) ∙ h in cc

pub has_number_same : (xs : List ℕ) (k : ℕ) → has_number (map pos xs) k ≡ has_id xs k
has_number_same [] k = refl
has_number_same (x ∷ xs) k = ap₂ (λ (a b : Bool). a || b) (same_number x k) (has_number_same xs k) where
  same_number : (x k : ℕ) → int_eq (pos x) (pos k) ≡ (x == k)
  same_number x k = elim (cases_eq x k) [
    | inl e ↦ let a : int_eq (pos x) (pos k) ≡ true = grind (arith, ints) in a ∙ sym (eq-eqb x k e)
    | inr ne ↦ let a : int_eq (pos x) (pos k) ≡ false = grind (arith, ints) in a ∙ sym (ne_eqb x k ne)
  ]

pub no_place : (rule : ℕ) (place : Option ℕ) → at_place rule place ≡ None → place ≡ None
no_place rule None h = refl
no_place rule (Some k) h = cc

pub same_parts : (p q : ScenarioParts) (o : Option ScenarioParts) → o ≡ Some p → o ≡ Some q → p ≡ q
same_parts p q o h k = let s : ◌≡◌ {A = Option ScenarioParts} (Some p) (Some q) = sym h ∙ k in cc

pub span_is : (periods first last : ℕ) → first ≤ last → last < periods → is_span periods (pos first ∷ pos last ∷ []) ≡ true
span_is periods first last ordered low = and_from _ _ (and_from _ _ (not_above 0 first (omega arith)) (not_above first last ordered)) (lt-ltb last periods low)

pub unless_holds : (test : Bool) (rule place : ℕ) → unless test rule place ≡ None → test ≡ true
unless_holds true rule place h = refl
unless_holds false rule place h = cc
