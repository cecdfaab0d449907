-- What nodes say of themselves, node by node.
use Rattle.std.proofs.Common.{ℕ, ◌≡◌, ◌<◌, ◌+◌, ◌==◌, true, false, if◌then◌else◌, List, Option, None, Some, refl, sym, ap, ◌∙◌, inl, inr, arith, eq-eqb, ne_eqb, ltb-true, nat_lt}
use Rattle.std.specs.Prelude.{is_some}
use Rattle.std.proofs.lemmas.Bool.{cases_eq, cond-true, cond-false, and_parts, false≢true}
use Rattle.node_grid.specs.NodeSet.{has_id}
use Rattle.agreed_state.specs.Agreed.{AgreedView}
use Rattle.protocol.specs.View.{own_claim}
use Rattle.protocol.specs.View.{View}
use Rattle.scenario.specs.Scenario.{ScenarioView, system_of}
use Rattle.touched_items.specs.ItemLaws.{claim_told, row_told}
use Rattle.shared_states.specs.Sharing.{state_at}
use Rattle.shown_period.specs.declared.made.Made.{Made}
use Rattle.view_law.specs.Laws.{ViewLaw}
use Rattle.at_once.specs.Parts.{goes, given, is_full, through, found_in}
use Rattle.at_once.specs.Course.{IsGoing}
use Rattle.at_once.proofs.Talks.{full_through, claim_is, found_is}
use Rattle.at_once.proofs.Making.{view_is}

pub told_more : {V : Type 0} (tells : ℕ → V) (full : List ℕ) (i : ℕ) (old new : ℕ → V) (item : V) → ((j : ℕ) → new j ≡ (if j == i then item else old j)) → tells i ≡ item
    → ((j : ℕ) → j < i → has_id full j ≡ true → tells j ≡ old j) → (j : ℕ) → j < i + 1 → has_id full j ≡ true → tells j ≡ new j
told_more tells full i old new item put is before j less on = elim (cases_eq j i) [
  | inl e ↦ ap tells e ∙ is ∙ sym (put j ∙ cond-true (j == i) item (old j) (eq-eqb j i e))
  | inr ne ↦ before j (omega arith) on ∙ sym (put j ∙ cond-false (j == i) item (old j) (ne_eqb j i ne))
]

-- a node that isn't Full need not be asked
pub told_skip : {V : Type 0} (tells : ℕ → V) (full : List ℕ) (i : ℕ) (old : ℕ → V) → has_id full i ≡ false → ((j : ℕ) → j < i → has_id full j ≡ true → tells j ≡ old j)
    → (j : ℕ) → j < i + 1 → has_id full j ≡ true → tells j ≡ old j
told_skip tells full i old off before j less on = elim (cases_eq j i) [
  | inl e ↦ absurd (false≢true (sym off ∙ ap (has_id full) (sym e) ∙ on))
  | inr ne ↦ before j (omega arith) on
]

pub of_some : {X : Type 0} (o : Option X) → is_some o ≡ true → (a : X) × (o ≡ Some a)
of_some (Some a) is = (a, refl)
of_some None is = cc

-- the row that a node tells in the run is the one that it found
pub row_is : ViewLaw → {N : ℕ} (sc : ScenarioView N) (p i : ℕ) (a : AgreedView) → through sc p i ≡ Some a → row_told (system_of sc) p i ≡ found_in sc p i a
row_is law sc p i a goes = found_is sc p i ∙ ap (λ (v : View). v.found) (view_is law sc p i a goes)

module _ {N : ℕ} (sc : ScenarioView N) (p : ℕ) (full : List ℕ) (made : Made N) (going : IsGoing sc p full made) (i : ℕ) (on : has_id full i ≡ true) where
  full_parts : (nat_lt i sc.config.nodes ≡ true) × (is_full sc p i ≡ true)
  full_parts = and_parts (nat_lt i sc.config.nodes) (is_full sc p i) (sym (going.full_are i) ∙ on)

  pub full_low : i < sc.config.nodes
  full_low = ltb-true i sc.config.nodes full_parts.0

  -- a Full node goes through the period with a state
  pub full_goes : (a : AgreedView) × (through sc p i ≡ Some a)
  full_goes = let f = of_some (goes sc p i).state full_parts.1 in (f.0, full_through sc p i f.0 f.1)

  pub full_has : state_at made.states i ≡ None → ⊥
  full_has none = let clash : None ≡ Some full_goes.0 = sym none ∙ going.states i full_low ∙ full_goes.1 in cc

  -- its claim, and its row
  pub full_claim : (a : AgreedView) → state_at made.states i ≡ Some a → claim_told (system_of sc) p i ≡ own_claim i (given sc p i) a
  full_claim a is = claim_is sc p i a (sym (going.states i full_low) ∙ is)

  pub full_row : ViewLaw → row_told (system_of sc) p i ≡ found_in sc p i full_goes.0
  full_row law = row_is law sc p i full_goes.0 full_goes.1
