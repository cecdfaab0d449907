use Rattle.run_print.proofs.Joining.{then, then_both, finished}
use Rattle.run_print.proofs.period.write_refused.Goals as goal

pub returns : goal.returns
returns g c =
    finished c.new-printer.ensures.gathered c.new-printer.ensures.failed (then (then_both _ _ c.labelled.ensures c.labelled-2.ensures) c.byte.ensures) c.finish.ensures
