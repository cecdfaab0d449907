use Rattle.run_print.proofs.Joining.{then}
use Rattle.run_print.proofs.printer.Printer.end.Goals as goal

pub returns : goal.returns
returns g c = then c.labelled.ensures c.byte.ensures
