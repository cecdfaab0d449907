use Rattle.run_print.proofs.Joining.{then_both}
use Rattle.run_print.proofs.printer.Printer.budget.Goals as goal

pub returns : goal.returns
returns g c = then_both _ _ (then_both _ _ (then_both _ _ c.labelled.ensures c.labelled-2.ensures) c.labelled-3.ensures) c.labelled-4.ensures
