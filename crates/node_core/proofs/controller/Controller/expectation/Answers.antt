use Rattle.std.proofs.Common.{ℕ, ◌≡◌, ◌≤◌, List, length, arith, inl, inr, lit<, sym, ap, ap₂, subst, ◌∙◌}
use Rattle.slot_plan.specs.Slots.{slot_number, IsSlot}
use Rattle.agreed_state.specs.Expecting.{expectation}
use Rattle.protocol.specs.Run.{members_in}
use Rattle.node_steps.specs.Parts.{NodeView}
use Rattle.node_steps.specs.Steps.{expected_in}
use Rattle.node_core.proofs.controller.Controller.expectation.Goals as goal

pub number-number-requires-clause-rounds : goal.number-number-requires-clause-rounds
number-number-requires-clause-rounds g c = c.self.invariant.place.few_rounds

pub number-number-requires-clause-slot : goal.number-number-requires-clause-slot
number-number-requires-clause-slot g c = subst (λ (v : NodeView g.row.N). IsSlot v.config.m c.args.slot) (sym c.self.view_is) c.requires.slot

pub len-due-requires : goal.len-due-requires
len-due-requires g c = lit< tt

pub overflow_cast-due : goal.overflow_cast-due
overflow_cast-due g c =
    let few : length c.self.inside.found.due.items ≤ 8 = subst (λ (v : NodeView g.row.N). length v.found.due ≤ 8) (sym c.self.view_is) c.requires.due in
    let is = c.len-due.ensures.value in
    omega (arith, few, is)

pub members-members-requires : goal.members-members-requires
members-members-requires g c = (elim g.bound-1.eight_or_sixteen [ inl e ↦ rw e (lit< tt) | inr e ↦ rw e (lit< tt) ], lit< tt)

pub expect-requires : goal.expect-requires
expect-requires g c = (elim g.bound-1.eight_or_sixteen [ inl e ↦ rw e (lit< tt) | inr e ↦ rw e (lit< tt) ], (lit< tt, (lit< tt, c.self.invariant.place.config_is)))

pub returns : goal.returns
returns g c =
    let n = c.self.inside in
    let is = c.self.view_is in
    let members : c.members-members.result ≡ members_in n.phase.before = c.members-members.ensures ∙ ap (λ (v : NodeView g.row.N). members_in v.phase.before) (sym is) in
    c.expect.ensures
    ∙ ap₂ (λ (t : ℕ) (ms : List ℕ). expectation n.config.now n.phase.period t n.phase.me ms c.len-due.result) c.number-number.ensures.number members
    ∙ ap (λ (due : ℕ). expectation n.config.now n.phase.period (slot_number n.config.now.m c.args.slot) n.phase.me (members_in n.phase.before) due) c.len-due.ensures.value
    ∙ ap (λ (v : NodeView g.row.N). expected_in v (slot_number v.config.m c.args.slot)) is
