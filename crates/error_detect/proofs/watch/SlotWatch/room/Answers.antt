use Rattle.std.specs.Prelude.{option_map}
use Rattle.frames.specs.Seen.{expected}
use Rattle.error_detect.proofs.Bodies.{bodies_held}
use Rattle.error_detect.proofs.watch.SlotWatch.room.Goals as goal

pub returns : goal.returns
returns g c =
    let n = c.self.inside in
    bodies_held g.row.N n.nodes n.me (option_map expected n.expect) n.is_open n.arrivals n.good c.room.result.now c.room.ensures _ c.self.invariant c.self.view_is
