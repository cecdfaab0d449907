use Rattle.run_print.proofs.Joining.{then}
use Rattle.run_print.proofs.printer.Printer.arrival.Goals as goal

pub returns : goal.returns
returns g c = then (then (then (then c.text.ensures c.number.ensures) c.byte.ensures) c.number-2.ensures) c.byte-2.ensures
