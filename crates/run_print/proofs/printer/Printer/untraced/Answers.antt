use Rattle.run_print.proofs.Joining.{then}
use Rattle.run_print.proofs.printer.Printer.untraced.Goals as goal

pub returns : goal.returns
returns g c = then (then c.head.ensures c.nodes.ensures) c.clock.ensures

pub head-requires : goal.head-requires
head-requires g c = (assumption, assumption)

pub nodes-requires : goal.nodes-requires
nodes-requires g c = (assumption, assumption)

pub clock-requires : goal.clock-requires
clock-requires g c = (assumption, assumption)
