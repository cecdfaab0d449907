use Rattle.std.proofs.Common.{ℕ, List, ap, ◌∙◌}
use Rattle.error_detect.specs.Inside.{held_from}
use Rattle.error_detect.specs.Watching.{Held, Boxes}
use Rattle.error_detect.proofs.Inboxes.{held_fresh}
use Rattle.error_detect.proofs.arrival.Arrivals.open.Goals as goal

pub returns : goal.returns
returns c =
    let room : List ℕ = c.in_ok-with_capacity.field-0.items in
    let seen : List Held → Boxes = λ hs. record { frame_max = c.args.frame_max; held = hs } in
    ap (λ is. seen (held_from c.args.frame_max room 0 is)) c.in_ok-open_inboxes.ensures
    ∙ ap seen (held_fresh c.args.frame_max room 0 c.args.nodes)
