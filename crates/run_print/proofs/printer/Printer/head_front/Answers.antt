use Rattle.std.proofs.Common.{lit<}
use Rattle.run_print.proofs.Joining.{then}
use Rattle.run_print.proofs.printer.Printer.head_front.Goals as goal

pub returns : goal.returns
returns g c = then (then (then c.labelled.ensures c.text.ensures) c.set.ensures) c.budget.ensures

pub set-requires : goal.set-requires
set-requires g c = (assumption, lit< tt)
