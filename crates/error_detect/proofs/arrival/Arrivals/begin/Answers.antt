use Rattle.std.proofs.Common.{◌<◌, length, sym, ap, ◌∙◌, arith}
use Rattle.error_detect.specs.Watching.{Boxes}
use Rattle.error_detect.proofs.Inboxes.{length-held, part_below}
use Rattle.error_detect.proofs.arrival.Arrivals.begin.Goals as goal

pub overflow_mul-result : goal.overflow_mul-result
overflow_mul-result c =
    let n = c.self.inside in
    let within : c.args.node < length n.inboxes.items = omega (arith, c.requires, ap (λ (b : Boxes). length b.held) (sym c.self.view_is) ∙ length-held n.frame_max n.room.items 0 n.inboxes.items) in
    omega (arith, part_below n.frame_max c.args.node (length n.inboxes.items) within, c.self.invariant.0, n.room.small)

pub returns-clause-small : goal.returns-clause-small
returns-clause-small c =
    let n = c.self.inside in
    let within : c.args.node < length n.inboxes.items = omega (arith, c.requires, ap (λ (b : Boxes). length b.held) (sym c.self.view_is) ∙ length-held n.frame_max n.room.items 0 n.inboxes.items) in
    omega (arith, part_below n.frame_max c.args.node (length n.inboxes.items) within, c.self.invariant.0, n.room.small)
