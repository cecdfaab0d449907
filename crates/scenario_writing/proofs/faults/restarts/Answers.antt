use Rattle.scenario.specs.Seen.{restart_view}
use Rattle.scenario_reading.specs.Keys.{restart_at}
use Rattle.scenario_writing.proofs.Grown.{next, all}
use Rattle.scenario_writing.proofs.faults.restarts.Goals as goal

pub loop-part-preserved : goal.loop-part-preserved
loop-part-preserved c =
    next restart_at restart_view c.args.parts.now c.loop-part.part-index _ c.in_ok-restart.field-0 c.loop-part.values.items c.push.new.self.items
    c.loop-part-test.true (c.in_ok-restart.ensures) c.in_ok-push.ensures.items c.loop-part.invariant

pub returns : goal.returns
returns c = all restart_at restart_view c.args.parts.now c.loop-part.part-index c.loop-part.values c.loop-part-test.false c.loop-part.invariant
