use Rattle.std.proofs.Common.{◌<◌, ℕ, ◌*◌, length, sym, ap, ◌∙◌, arith}
use Rattle.error_detect.specs.Watching.{Boxes, held_at, found_held}
use Rattle.error_detect.proofs.Inboxes.{length-held, held_here}
use Rattle.error_detect.proofs.arrival.Arrivals.finding.Goals as goal

pub index-requires : goal.index-requires
index-requires c =
    let n = c.self.inside in
    omega (arith, c.requires, ap (λ (b : Boxes). length b.held) (sym c.self.view_is) ∙ length-held n.frame_max n.room.items 0 n.inboxes.items, n.inboxes.ok.0)

pub returns : goal.returns
returns c =
    let n = c.self.inside in
    let j : ℕ = c.args.node in
    let within : j < length n.inboxes.items = omega (arith, c.requires, ap (λ (b : Boxes). length b.held) (sym c.self.view_is) ∙ length-held n.frame_max n.room.items 0 n.inboxes.items) in
    c.finding.ensures n.room.items (j * n.frame_max)
    ∙ ap found_held (sym (held_here n.frame_max n.room.items j n.inboxes.items c.index.result.now within c.index.ensures))
    ∙ ap (λ (b : Boxes). found_held (held_at b j)) c.self.view_is
