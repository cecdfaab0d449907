use Rattle.run_print.proofs.Joining.{then_five}
use Rattle.run_print.proofs.printer.Printer.shown_head.Goals as goal

pub returns : goal.returns
returns g c = then_five _ _ _ _ _ c.head_front.ensures c.verdicts.ensures
