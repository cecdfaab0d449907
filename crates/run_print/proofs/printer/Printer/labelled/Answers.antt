use Rattle.run_print.proofs.Joining.{then}
use Rattle.run_print.proofs.printer.Printer.labelled.Goals as goal

pub returns : goal.returns
returns g c = then c.text.ensures c.number.ensures

pub text-requires : goal.text-requires
text-requires g c = assumption

pub number-requires : goal.number-requires
number-requires g c = assumption
