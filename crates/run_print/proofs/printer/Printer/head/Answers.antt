use Rattle.std.proofs.Common.{sym}
use Rattle.run_print.proofs.Joining.{then_five}
use Rattle.run_print.proofs.printer.Printer.head.Goals as goal

pub returns : goal.returns
returns g c = rw (sym c.shown.view_is) (then_five _ _ _ _ _ c.head_front.ensures c.verdicts.ensures)
