use Rattle.std.proofs.Common.{◌≡◌, ℕ, ◌<◌, false, get_or}
use Rattle.error_detect.specs.declared.arrival.Inbox.TheVariants.{Empty}
use Rattle.error_detect.specs.Inside.{is_kept}
use Rattle.error_detect.proofs.arrival.keep_bytes.Given as goal

abbrev pub invariant-loop-q : goal.invariant-loop-q
invariant-loop-q l = (k : ℕ) → k < l.q → is_kept (get_or l.inboxes k Empty) ≡ false
