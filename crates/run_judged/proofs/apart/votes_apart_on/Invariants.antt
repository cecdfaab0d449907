use Rattle.std.proofs.Common.{◌≡◌}
use Rattle.shown_period.specs.Whole.{record_of}
use Rattle.run_judged.specs.Numbers.{greatest}
use Rattle.run_judged.specs.Apart.{votes_apart}
use Rattle.run_judged.proofs.apart.votes_apart_on.Given as goal

abbrev pub invariant-loop-channel : goal.invariant-loop-channel
invariant-loop-channel g l = l.most ≡ greatest (votes_apart (record_of l.seen.shown.now)) l.channel
