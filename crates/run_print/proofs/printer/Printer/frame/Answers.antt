use Rattle.run_print.proofs.Joining.{then}
use Rattle.run_print.proofs.printer.Printer.frame.Goals as goal

pub returns : goal.returns
returns g c = then (then c.arrival.ensures c.bytes.ensures) c.byte.ensures
