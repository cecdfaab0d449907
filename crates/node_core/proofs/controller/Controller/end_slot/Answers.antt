use Rattle.std.proofs.Common.{◌≡◌, ◌≢◌, ◌<◌, ◌≤◌, ◌+◌, ◌*◌, ◌==◌, ℕ, Option, arith, inl, inr, lit<, sym, ap, subst, ◌∙◌, ne_eqb}
use Rattle.std.specs.Prelude.{IfSome, IfNone}
use Rattle.std.proofs.lemmas.Bool.{cond-false}
use Rattle.slot_plan.specs.declared.slot.Slot.{Slot}
use Rattle.slot_plan.specs.Slots.{slot_number, slot_count, IsSlot}
use Rattle.node_grid.specs.CapacityLaws.{capacity-le}
use Rattle.node_steps.specs.Parts.{NodeView}
use Rattle.node_steps.specs.Sound.{IsTaken}
use Rattle.node_steps.specs.SoundSteps.{slot_is_taken}
use Rattle.node_steps.specs.FixedLaws.{Place, place, slot_place}
use Rattle.node_steps.specs.Steps.{slot_open, finished, period_over, next_open}
use Rattle.node_core.proofs.Behind.{config_ok}
use Rattle.node_core.proofs.Places.{later_slots}
use Rattle.node_core.proofs.controller.Controller.end_slot.Goals as goal

pub number-number-requires-clause-rounds : goal.number-number-requires-clause-rounds
number-number-requires-clause-rounds g c = c.self.invariant.place.few_rounds

pub number-number-requires-clause-slot : goal.number-number-requires-clause-slot
number-number-requires-clause-slot g c = c.self.invariant.slot

pub overflow_add-number : goal.overflow_add-number
overflow_add-number g c =
    let within = c.number-number.ensures.within in
    let few = c.self.invariant.place.few_rounds in
    omega (arith, within, few)

pub at-requires : goal.at-requires
at-requires g c = tt

-- a slot with another one behind it isn't the last
early : {N : ℕ} (v : NodeView N) (x : Slot) → v.phase.slot ≤ 2 * v.config.m + 3 → IsSlot v.config.m x → slot_number v.config.m x ≡ v.phase.slot + 1 → v.phase.slot < 2 * v.config.m + 3
early v x within slot next =
    let other : v.phase.slot ≢ 2 * v.config.m + 3 = λ e. later_slots v.config.m x slot (next ∙ ap (λ (k : ℕ). k + 1) e) in
    omega (arith, within, other)

pub take_slot-requires : goal.take_slot-requires
take_slot-requires g c =
    let n = c.self.inside in
    let is = c.self.view_is in
    let v : NodeView g.row.N = c.args.self.now in
    let m : n.config.now.m ≡ v.config.m = ap (λ (u : NodeView g.row.N). u.config.m) is in
    let found = subst (λ (o : Option Slot). IfSome o (λ x. IsSlot n.config.now.m x × (slot_number n.config.now.m x ≡ c.number-number.result + 1))) c.in-Some.is c.at.ensures.number in
    let slot : IsSlot v.config.m c.in-Some.next = subst (λ (k : ℕ). IsSlot k c.in-Some.next) m found.0 in
    let stands : c.number-number.result ≡ v.phase.slot = c.number-number.ensures.number ∙ ap (λ (u : NodeView g.row.N). u.phase.slot) is in
    let next : slot_number v.config.m c.in-Some.next ≡ v.phase.slot + 1 = ap (λ (k : ℕ). slot_number k c.in-Some.next) (sym m) ∙ found.1 ∙ ap (λ (k : ℕ). k + 1) stands in
    (elim g.bound-1.eight_or_sixteen [ inl e ↦ rw e (lit< tt) | inr e ↦ rw e (lit< tt) ], (c.requires.sound, (c.requires.open, early v c.in-Some.next (c.requires.sound.in_slot c.requires.open).within slot next)))

pub open_slot-requires : goal.open_slot-requires
open_slot-requires g c =
    let n = c.self.inside in
    let is = c.self.view_is in
    let v : NodeView g.row.N = c.args.self.now in
    let m : n.config.now.m ≡ v.config.m = ap (λ (u : NodeView g.row.N). u.config.m) is in
    let found = subst (λ (o : Option Slot). IfSome o (λ x. IsSlot n.config.now.m x × (slot_number n.config.now.m x ≡ c.number-number.result + 1))) c.in-Some.is c.at.ensures.number in
    let slot : IsSlot v.config.m c.in-Some.next = subst (λ (k : ℕ). IsSlot k c.in-Some.next) m found.0 in
    let stands : c.number-number.result ≡ v.phase.slot = c.number-number.ensures.number ∙ ap (λ (u : NodeView g.row.N). u.phase.slot) is in
    let next : slot_number v.config.m c.in-Some.next ≡ v.phase.slot + 1 = ap (λ (k : ℕ). slot_number k c.in-Some.next) (sym m) ∙ found.1 ∙ ap (λ (k : ℕ). k + 1) stands in
    let w : NodeView g.row.N = c.take_slot.new.self in
    let kept : place w ≡ place v = ap (λ (u : NodeView g.row.N). place u) c.take_slot.ensures ∙ slot_place v in
    let rounds : w.config.m ≡ v.config.m = ap (λ (p : Place g.row.N). p.lasts.of_node.config.m) kept in
    let still : w.phase.slot ≡ v.phase.slot = ap (λ (p : Place g.row.N). p.slot) kept in
    let next-now : slot_number w.config.m c.in-Some.next ≡ w.phase.slot + 1 = ap (λ (k : ℕ). slot_number k c.in-Some.next) rounds ∙ next ∙ ap (λ (k : ℕ). k + 1) (sym still) in
    let taken = slot_is_taken v (capacity-le g.row.N g.bound-1.eight_or_sixteen) (config_ok n v c.self.invariant is) c.requires.sound c.requires.open in
    (elim g.bound-1.eight_or_sixteen [ inl e ↦ rw e (lit< tt) | inr e ↦ rw e (lit< tt) ], (subst (λ (k : ℕ). IsSlot k c.in-Some.next) (sym rounds) slot, (next-now, subst (IsTaken {N = g.row.N}) (sym c.take_slot.ensures) taken)))

pub returns-in-Some : goal.returns-in-Some
returns-in-Some g c =
    let n = c.self.inside in
    let is = c.self.view_is in
    let v : NodeView g.row.N = c.args.self.now in
    let m : n.config.now.m ≡ v.config.m = ap (λ (u : NodeView g.row.N). u.config.m) is in
    let found = subst (λ (o : Option Slot). IfSome o (λ x. IsSlot n.config.now.m x × (slot_number n.config.now.m x ≡ c.number-number.result + 1))) c.in-Some.is c.at.ensures.number in
    let slot : IsSlot v.config.m c.in-Some.next = subst (λ (k : ℕ). IsSlot k c.in-Some.next) m found.0 in
    let stands : c.number-number.result ≡ v.phase.slot = c.number-number.ensures.number ∙ ap (λ (u : NodeView g.row.N). u.phase.slot) is in
    let next : slot_number v.config.m c.in-Some.next ≡ v.phase.slot + 1 = ap (λ (k : ℕ). slot_number k c.in-Some.next) (sym m) ∙ found.1 ∙ ap (λ (k : ℕ). k + 1) stands in
    let w : NodeView g.row.N = c.take_slot.new.self in
    let kept : place w ≡ place v = ap (λ (u : NodeView g.row.N). place u) c.take_slot.ensures ∙ slot_place v in
    let rounds : w.config.m ≡ v.config.m = ap (λ (p : Place g.row.N). p.lasts.of_node.config.m) kept in
    let still : w.phase.slot ≡ v.phase.slot = ap (λ (p : Place g.row.N). p.slot) kept in
    let next-now : slot_number w.config.m c.in-Some.next ≡ w.phase.slot + 1 = ap (λ (k : ℕ). slot_number k c.in-Some.next) rounds ∙ next ∙ ap (λ (k : ℕ). k + 1) (sym still) in
    let low = early v c.in-Some.next (c.requires.sound.in_slot c.requires.open).within slot next in
    let other : w.phase.slot ≢ 2 * w.config.m + 3 = λ e. absurd (omega (arith, low, rounds, still, e)) in
    c.open_slot.ensures ∙ ap (slot_open w) next-now
    ∙ sym (cond-false (w.phase.slot == 2 * w.config.m + 3) (period_over (finished w w.phase.before)) (slot_open w (w.phase.slot + 1)) (ne_eqb w.phase.slot (2 * w.config.m + 3) other))
    ∙ ap (λ (u : NodeView g.row.N). next_open u) c.take_slot.ensures

pub end_period-requires : goal.end_period-requires
end_period-requires g c =
    let n = c.self.inside in
    let is = c.self.view_is in
    let v : NodeView g.row.N = c.args.self.now in
    let m : n.config.now.m ≡ v.config.m = ap (λ (u : NodeView g.row.N). u.config.m) is in
    let past : slot_count n.config.now.m ≤ c.number-number.result + 1 = subst (λ (o : Option Slot). IfNone o (slot_count n.config.now.m ≤ c.number-number.result + 1)) c.in-None.is c.at.ensures.none in
    let within = c.number-number.ensures.within in
    let stands : c.number-number.result ≡ v.phase.slot = c.number-number.ensures.number ∙ ap (λ (u : NodeView g.row.N). u.phase.slot) is in
    let last : v.phase.slot ≡ 2 * v.config.m + 3 = omega (arith, past, within, stands, m) in
    (elim g.bound-1.eight_or_sixteen [ inl e ↦ rw e (lit< tt) | inr e ↦ rw e (lit< tt) ], (c.requires.sound, (c.requires.open, last)))
