use Rattle.std.proofs.Common.{ℕ, ◌*◌, List, get_or, sym, subst}
use Rattle.error_detect.specs.declared.arrival.Inbox.TheVariants.{Empty}
use Rattle.error_detect.specs.Inside.{StandsAt}
use Rattle.error_detect.specs.Watching.{Boxes, held_at}
use Rattle.error_detect.proofs.Inboxes.{held-of, stands_in}
use Rattle.error_detect.proofs.arrival.Arrivals.room.Goals as goal

pub returns : goal.returns
returns c q =
    let n = c.self.inside in
    let here = stands_in n.frame_max n.room.items (q * n.frame_max) (get_or n.inboxes.items q Empty) (c.self.invariant.1 q) in
    let seen = subst (StandsAt n.room.items (q * n.frame_max)) (sym (held-of n.frame_max n.room.items q n.inboxes.items)) here in
    let kept = subst (λ (b : Boxes). StandsAt n.room.items (q * b.frame_max) (held_at b q)) c.self.view_is seen in
    subst (λ (r : List ℕ). StandsAt r (q * c.args.self.now.frame_max) (held_at c.args.self.now q)) (sym c.as_slice.ensures.value) kept
