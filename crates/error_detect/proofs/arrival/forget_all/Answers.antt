use Rattle.std.proofs.Common.{◌<◌, ℕ, List, length, get_or, arith}
use Rattle.std.proofs.lemmas.List.{get_or_default}
use Rattle.std.proofs.lemmas.List.Edits.{map_over_more}
use Rattle.error_detect.specs.declared.arrival.Inbox.{Inbox}
use Rattle.error_detect.specs.declared.arrival.Inbox.TheVariants.{Empty}
use Rattle.error_detect.specs.Inside.{forgotten}
use Rattle.error_detect.proofs.arrival.forget_all.Goals as goal

pub loop-inbox-preserved : goal.loop-inbox-preserved
loop-inbox-preserved c =
    let now : List Inbox = c.loop-inbox.inboxes in
    let q : ℕ = c.loop-inbox.inbox-index in
    let within : q < length c.args.inboxes.now = omega (arith, c.loop-inbox-test.true, c.loop-inbox.auto.inboxes) in
    let low : q < length now = omega (arith, c.loop-inbox-test.true, c.loop-inbox.auto.inboxes) in
    map_over_more forgotten c.args.inboxes.now now q (get_or now q Empty) within c.loop-inbox.invariant (get_or_default now q Empty (get_or now q Empty) low)
