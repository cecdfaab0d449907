use Rattle.shown_period.specs.Whole.{record_of}
use Rattle.run_judged.specs.Apart.{offset_in}
use Rattle.run_judged.proofs.Ranges.{ranged_by}
use Rattle.run_judged.proofs.apart.clocks_apart.Goals as goal

pub loop-node-preserved : goal.loop-node-preserved
loop-node-preserved g c =
    ranged_by (offset_in (record_of c.args.seen.now.shown.now)) c.loop-node.node c.loop-node.range c.offset-offset.result c.with_number-range.result c.loop-node.invariant c.offset-offset.ensures c.with_number-range.ensures
