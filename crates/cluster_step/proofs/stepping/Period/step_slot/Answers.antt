use Rattle.std.proofs.Common.{[], map, inl, inr, lit<, ap, arith}
use Rattle.std.specs.Prelude.{slice_index_or}
use Rattle.slot_plan.specs.Slots.{slot_count}
use Rattle.node_steps.specs.Steps.{frame_of}
use Rattle.cluster_step.proofs.Slotting.{slot_done, open_all, shape_kept, taken_frames}
use Rattle.cluster_step.proofs.stepping.Period.step_slot.Goals as goal

pub take_frames-requires : goal.take_frames-requires
take_frames-requires g c =
    let shape = c.requires.shape in (
      elim g.bound-1.eight_or_sixteen [ inl e ↦ rw e (lit< tt) | inr e ↦ rw e (lit< tt) ],
      (
        elim g.bound-1.eight_or_sixteen [ inl e ↦ rw e (lit< tt) | inr e ↦ rw e (lit< tt) ],
        (
          omega (arith, c.requires.slot, ap slot_count shape.m),
          (
            open_all c.args.self.now.scenario.now.plan c.args.nodes.now c.requires.ready,
            (c.requires.room.each, c.requires.room.short),
          ),
        ),
      ),
    )

pub step_each-requires : goal.step_each-requires
step_each-requires g c =
    let shape = shape_kept c.args.self.now.scenario.now.config c.args.slot c.args.shown.now c.take_frames.new.self (map frame_of c.args.nodes.now) c.requires.shape c.take_frames.ensures in (
      lit< tt,
      (
        elim g.bound-1.eight_or_sixteen [ inl e ↦ rw e (lit< tt) | inr e ↦ rw e (lit< tt) ],
        (
          elim g.bound-1.eight_or_sixteen [ inl e ↦ rw e (lit< tt) | inr e ↦ rw e (lit< tt) ],
          (c.requires.ready, (shape, c.requires.slot)),
        ),
      ),
    )

pub returns-clause-nodes : goal.returns-clause-nodes
returns-clause-nodes g c =
    let sc = c.args.self.now.scenario.now in
    slot_done sc.plan sc.order sc.config.nodes c.args.self.now.number c.args.slot c.args.nodes.now c.step_each.new.nodes (slice_index_or c.take_frames.new.self.sent c.args.slot [])
    (taken_frames c.args.slot c.args.shown.now c.take_frames.new.self (map frame_of c.args.nodes.now) (let many = c.requires.shape.slots in omega (arith, c.requires.slot, many)) c.take_frames.ensures) c.step_each.ensures
