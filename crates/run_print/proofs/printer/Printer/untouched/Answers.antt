use Rattle.run_print.proofs.Joining.{then}
use Rattle.run_print.proofs.printer.Printer.untouched.Goals as goal

pub returns : goal.returns
returns g c = then (then c.text.ensures c.number.ensures) c.text-2.ensures
