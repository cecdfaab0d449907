use Rattle.shown_period.specs.Whole.{record_of}
use Rattle.run_judged.specs.Apart.{votes_apart}
use Rattle.run_judged.proofs.Totals.{greatest_none, greatest_next}
use Rattle.run_judged.proofs.apart.votes_apart_on.Goals as goal

pub loop-channel-init : goal.loop-channel-init
loop-channel-init g c = greatest_none (votes_apart (record_of c.args.seen.now.shown.now))

pub loop-channel-preserved : goal.loop-channel-preserved
loop-channel-preserved g c =
    greatest_next (votes_apart (record_of c.args.seen.now.shown.now)) c.loop-channel.channel c.loop-channel.most c.votes_apart-apart.result c.greater-most.result c.loop-channel.invariant c.votes_apart-apart.ensures c.greater-most.ensures
