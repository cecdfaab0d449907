use Rattle.std.proofs.Common.{Some, ap, ◌∙◌}
use Rattle.scenario.specs.Seen.{fault_view}
use Rattle.scenario_reading.specs.Keys.{fault_at}
use Rattle.scenario_writing.proofs.Grown.{next, all}
use Rattle.scenario_writing.proofs.faults.faults.Goals as goal

pub loop-part-preserved : goal.loop-part-preserved
loop-part-preserved c =
    next fault_at fault_view c.args.parts.now c.loop-part.part-index c.part-item.result c.in_ok-fault.field-0 c.loop-part.values.items c.push.new.self.items
    c.loop-part-test.true (c.in_ok-fault.ensures ∙ ap (λ p. Some (fault_view p)) c.part-item.is) c.in_ok-push.ensures.items c.loop-part.invariant

pub returns : goal.returns
returns c = all fault_at fault_view c.args.parts.now c.loop-part.part-index c.loop-part.values c.loop-part-test.false c.loop-part.invariant
