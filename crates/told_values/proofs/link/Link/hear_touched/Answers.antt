use Rattle.std.proofs.Common.{ℕ, Some, lit<, inl, inr}
use Rattle.node_grid.specs.Capacity.{IsCapacity}
use Rattle.frames.specs.Seen.{content}
use Rattle.fault_classes.specs.Change.{change_of}
use Rattle.protocol.specs.Arrival.Arrival.{Bad}
use Rattle.told_values.specs.Slot.{slot_of, expects, said}
use Rattle.told_values.proofs.Arriving.{of_whole}
use Rattle.told_values.proofs.Sending.{heard_as, in_cluster}
use Rattle.told_values.proofs.link.Link.hear_touched.Goals as goal

pub returns-in-Some : goal.returns-in-Some
returns-in-Some g c = λ range.
    let d = slot_of g.D.Dues.dues c.args.self.now.slot.now in
    let from : ℕ = c.args.self.now.from in
    of_whole (Some (change_of c.args.effect.now)) (expects d from from) (expects d from c.args.self.now.to) (said d from) (Bad c.in-Some.kind)
    (c.in-Some.ensures.found (expects d from from) (expects d from c.args.self.now.to) (said d from) range)

pub hear_frame-requires : goal.hear_frame-requires
hear_frame-requires g c =
    let d = slot_of g.D.Dues.dues c.args.self.now.slot.now in
    let cap : IsCapacity g.row.N = c.body.ensures.capacity in
    let nodes : ℕ = c.expect-expect.result.nodes in (
      elim cap [ inl e ↦ rw e (lit< tt) | inr e ↦ rw e (lit< tt) ],
      (
        lit< tt,
        (
          in_cluster d c.args.self.now.from c.args.self.now.to c.expect-expect.result cap c.body.ensures.slot c.expect-expect.ensures,
          (c.body.ensures.widths nodes, c.body.ensures.short nodes),
        ),
      ),
    )

pub returns : goal.returns
returns g c = λ range.
    let d = slot_of g.D.Dues.dues c.args.self.now.slot.now in
    let nodes : ℕ = c.expect-expect.result.nodes in
    heard_as d c.args.self.now.from c.args.self.now.to range (change_of c.args.effect.now) c.expect-expect.result c.head.result (content nodes c.body.result) c.due.result.channels.now c.hear_frame.result
    c.expect-expect.ensures c.head.ensures (c.body.ensures.said nodes range) c.due.ensures.due c.hear_frame.ensures
