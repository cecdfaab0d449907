-- What stands behind the view of a controller.
use Rattle.std.specs.Prelude.{is_some}
use Rattle.std.proofs.Common.{ℕ, ◌≡◌, ◌==◌, Bool, true, false, not, Option, None, Some, refl, sym, ap, subst, ◌∙◌, ne_eqb}
use Rattle.std.proofs.lemmas.Bool.{cond-false}
use Rattle.slot_plan.specs.declared.slot.Slot.{Slot}
use Rattle.slot_plan.specs.Slots.{slot_number, IsSlot}
use Rattle.agreed_state.specs.Config.{IsConfig}
use Rattle.node_steps.specs.Parts.{NodeView}
use Rattle.node_steps.specs.Steps.{shut, slot_taken, taken, after_sync}
use Rattle.node_core.specs.declared.controller.Controller.TheInside.{Inside}
use Rattle.node_core.specs.Inside.{seen, IsController}

module _ {N : ℕ} (n : Inside N) (v : NodeView N) (inv : IsController n) (is : seen n ≡ v) where
  pub config_ok : IsConfig N v.config
  config_ok = subst (λ (u : NodeView N). IsConfig N u.config) is inv.place.config_is

  pub rounds_same : n.config.now.m ≡ v.config.m
  rounds_same = ap (λ (u : NodeView N). u.config.m) is

  -- the number of the slot in which it stands
  pub stands_in : (x : Slot) → n.phase.slot ≡ x → v.phase.slot ≡ slot_number v.config.m x
  stands_in x e = ap (λ (u : NodeView N). u.phase.slot) (sym is) ∙ ap (slot_number n.config.now.m) e ∙ ap (λ (m : ℕ). slot_number m x) rounds_same

  -- which is one of the plan
  pub is_slot : (x : Slot) → n.phase.slot ≡ x → IsSlot v.config.m x
  is_slot x e = subst (λ (m : ℕ). IsSlot m x) rounds_same (subst (IsSlot n.config.now.m) e inv.slot)

-- a slot after the first one takes what it says by its state
pub later_taken : {N : ℕ} (v : NodeView N) → (v.phase.slot ≡ 0 → ⊥) → slot_taken (shut v) ≡ taken (shut v) v.phase.before
later_taken v some = cond-false (v.phase.slot == 0) (after_sync (shut v)) (taken (shut v) v.phase.before) (ne_eqb v.phase.slot 0 some)

-- by whether it is none
pub some_of : {A : Type 0} (o : Option A) (none : Bool) → is_some o ≡ not none → none ≡ false → (a : A) × (o ≡ Some a)
some_of None none h e = absurd (let x = ap not e in cc)
some_of (Some a) none h e = (a, refl)

pub none_of : {A : Type 0} (o : Option A) (none : Bool) → is_some o ≡ not none → none ≡ true → o ≡ None
none_of None none h e = refl
none_of (Some a) none h e = absurd (let x = ap not e in cc)
