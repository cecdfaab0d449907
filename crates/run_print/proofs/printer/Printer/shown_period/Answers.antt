use Rattle.run_print.proofs.Joining.{then}
use Rattle.run_print.proofs.printer.Printer.shown_period.Goals as goal

pub returns : goal.returns
returns g c = then (then c.shown_head.ensures c.shown_nodes.ensures) c.shown_clock.ensures
