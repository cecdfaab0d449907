use Rattle.std.proofs.Common.{◌≡◌, ◌++◌, take, drop, map}
use Rattle.error_detect.specs.Inside.{forgotten}
use Rattle.error_detect.proofs.arrival.forget_all.Given as goal

abbrev pub invariant-loop-inbox : goal.invariant-loop-inbox
invariant-loop-inbox l = l.inboxes ≡ map forgotten (take l.inbox-index l.initial.inboxes) ++ drop l.inbox-index l.initial.inboxes
