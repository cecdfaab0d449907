use Rattle.std.proofs.Common.{◌≡◌, replicate}
use Rattle.error_detect.specs.declared.arrival.Inbox.TheVariants.{Empty}
use Rattle.error_detect.proofs.arrival.open_inboxes.Given as goal

abbrev pub invariant-loop : goal.invariant-loop
invariant-loop l = l.inboxes.items ≡ replicate l.counter Empty
