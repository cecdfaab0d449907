use Rattle.run_print.proofs.Joining.{then}
use Rattle.run_print.proofs.printer.Printer.votes_line.Goals as goal

pub returns : goal.returns
returns g c = then (then c.text.ensures c.votes.ensures) c.byte.ensures
