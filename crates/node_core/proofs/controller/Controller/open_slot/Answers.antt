use Rattle.std.proofs.Common.{◌≡◌, arith, inl, inr, lit<, sym, ap, subst, ◌∙◌}
use Rattle.slot_plan.specs.Slots.{slot_number, IsSlot}
use Rattle.frames.specs.Content.{Expectation}
use Rattle.frames.specs.Seen.{expected}
use Rattle.error_detect.specs.Watching.{HasRoom}
use Rattle.node_steps.specs.Parts.{NodeView}
use Rattle.node_steps.specs.PremiseLaws.{few_due}
use Rattle.node_steps.specs.Sound.{IsTaken}
use Rattle.node_steps.specs.Steps.{expected_in, slot_open}
use Rattle.node_core.specs.Inside.{seen}
use Rattle.node_core.proofs.Behind.{config_ok}
use Rattle.node_core.proofs.Opened.{opened_kept, opened_seen}
use Rattle.node_core.proofs.Rounds.{expected_fits}
use Rattle.node_core.proofs.controller.Controller.open_slot.Goals as goal

pub expectation-expect-requires : goal.expectation-expect-requires
expectation-expect-requires g c =
    let few = few_due c.args.self.now (config_ok c.self.inside c.args.self.now c.self.invariant c.self.view_is) c.requires.taken.sizes in
    (elim g.bound-1.eight_or_sixteen [ inl e ↦ rw e (lit< tt) | inr e ↦ rw e (lit< tt) ], (lit< tt, (c.requires.slot, few)))

pub open_slot-requires : goal.open_slot-requires
open_slot-requires g c =
    let n = c.self.inside in
    let inv = c.self.invariant in
    let is = c.self.view_is in
    let v : NodeView g.row.N = c.args.self.now in
    let e = c.expectation-expect.ensures in
    let nodes : c.expectation-expect.result.nodes ≡ n.config.now.nodes = ap (λ (x : Expectation). x.nodes) e ∙ ap (λ (u : NodeView g.row.N). u.config.nodes) (sym is) in
    let m : c.expectation-expect.result.m ≡ n.config.now.m = ap (λ (x : Expectation). x.m) e ∙ ap (λ (u : NodeView g.row.N). u.config.m) (sym is) in
    let taken : IsTaken (seen n) = subst (IsTaken {N = g.row.N}) (sym is) c.requires.taken in
    let same : expected c.expectation-expect.result ≡ expected_in (seen n) (slot_number n.config.now.m c.args.slot) = e ∙ ap (λ (u : NodeView g.row.N). expected_in u (slot_number u.config.m c.args.slot)) (sym is) in
    let room = subst (HasRoom n.watch.frame_max) (sym same) (expected_fits (seen n) (slot_number n.config.now.m c.args.slot) n.watch.frame_max inv.place.config_is taken.sizes inv.watch.greatest) in
    let some = inv.place.config_is.some_nodes in
    let few = inv.place.few_rounds in
    (lit< tt, (lit< tt, (nodes ∙ sym inv.watch.nodes, (omega (arith, nodes, some), (omega (arith, m, few), room)))))

pub invariant_of-self : goal.invariant_of-self
invariant_of-self g c =
    let n = c.self.inside in
    let slot : IsSlot n.config.now.m c.args.slot = subst (λ (u : NodeView g.row.N). IsSlot u.config.m c.args.slot) (sym c.self.view_is) c.requires.slot in
    opened_kept n c.args.slot (expected c.expectation-expect.result) c.open_slot.new.self c.open_slot.ensures c.self.invariant slot

pub returns : goal.returns
returns g c =
    let n = c.self.inside in
    let is = c.self.view_is in
    let same : expected c.expectation-expect.result ≡ expected_in (seen n) (slot_number n.config.now.m c.args.slot) = c.expectation-expect.ensures ∙ ap (λ (u : NodeView g.row.N). expected_in u (slot_number u.config.m c.args.slot)) (sym is) in
    opened_seen n c.args.slot (expected c.expectation-expect.result) c.open_slot.new.self c.open_slot.ensures same
    ∙ ap (λ (u : NodeView g.row.N). slot_open u (slot_number u.config.m c.args.slot)) is
