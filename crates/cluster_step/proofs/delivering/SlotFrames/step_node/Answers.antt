use Rattle.std.proofs.Common.{map, inl, inr, lit<, ap, subst, sym, ◌∙◌}
use Rattle.node_steps.specs.Parts.{NodeView}
use Rattle.node_steps.specs.Steps.{after_slot}
use Rattle.scenario.specs.Scenario.{ScenarioView}
use Rattle.cluster_periods.specs.Slots.{handed_all, IsReady}
use Rattle.cluster_step.proofs.Pieces.{ready_still}
use Rattle.cluster_step.proofs.delivering.SlotFrames.step_node.Goals as goal

pub swap_rooms-requires : goal.swap_rooms-requires
swap_rooms-requires g c = elim g.bound-1.eight_or_sixteen [ inl e ↦ rw e (lit< tt) | inr e ↦ rw e (lit< tt) ]

pub deliver_all-requires : goal.deliver_all-requires
deliver_all-requires g c =
    let sc : ScenarioView g.row.N = c.args.self.now.period.now.scenario.now in (
      lit< tt,
      (
        elim g.bound-1.eight_or_sixteen [ inl e ↦ rw e (lit< tt) | inr e ↦ rw e (lit< tt) ],
        subst (IsReady sc.plan) (sym c.swap_rooms.ensures) c.requires,
      ),
    )

pub slot_end-requires : goal.slot_end-requires
slot_end-requires g c =
    let sc : ScenarioView g.row.N = c.args.self.now.period.now.scenario.now in
    let ready : IsReady sc.plan c.swap_rooms.new.self = subst (IsReady sc.plan) (sym c.swap_rooms.ensures) c.requires in (
      elim g.bound-1.eight_or_sixteen [ inl e ↦ rw e (lit< tt) | inr e ↦ rw e (lit< tt) ],
      (ready_still sc.plan c.swap_rooms.new.self c.deliver_all.new.node _ c.deliver_all.ensures ready).is_open,
    )

pub swap_rooms-requires-2 : goal.swap_rooms-requires-2
swap_rooms-requires-2 g c = elim g.bound-1.eight_or_sixteen [ inl e ↦ rw e (lit< tt) | inr e ↦ rw e (lit< tt) ]

pub returns : goal.returns
returns g c =
    let sc : ScenarioView g.row.N = c.args.self.now.period.now.scenario.now in
    c.swap_rooms-2.ensures ∙ c.slot_end.ensures
    ∙ ap (λ (v : NodeView g.row.N). after_slot v)
    (c.deliver_all.ensures ∙ ap (handed_all sc.plan sc.order sc.config.nodes c.args.self.now.period.now.number c.args.self.now.slot (map (λ f. f.items) c.args.self.now.frames.now)) c.swap_rooms.ensures)

pub invariant_of-scratch : goal.invariant_of-scratch
invariant_of-scratch g c = c.scratch.invariant

pub invariant_of-scratch-2 : goal.invariant_of-scratch-2
invariant_of-scratch-2 g c = c.scratch-2.invariant
