use Rattle.std.proofs.Common.{List, ap, ◌∙◌, subst}
use Rattle.error_detect.specs.Inside.{KeepsNone}
use Rattle.error_detect.specs.Watching.{Held, Boxes}
use Rattle.error_detect.proofs.Inboxes.{room_free}
use Rattle.error_detect.proofs.arrival.Arrivals.swap_room.Goals as goal

pub returns : goal.returns
returns c =
    let n = c.self.inside in
    let none : KeepsNone n.inboxes.items = subst KeepsNone c.as_slice.ensures.value (c.keep_bytes.ensures c.if-keep_bytes.false) in
    let seen : List Held → Boxes = λ hs. record { frame_max = n.frame_max; held = hs } in
    ap seen (room_free n.frame_max n.room.items c.swap.new.x.items 0 n.inboxes.items none) ∙ c.self.view_is
