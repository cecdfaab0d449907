use Rattle.std.proofs.Common.{map}
use Rattle.std.specs.Prelude.{codes}
use Rattle.node_grid.specs.NodeSet.{ids_below}
use Rattle.list_scheduler.specs.Copies.{works}
use Rattle.run_text.specs.Text.{separated, running_text}
use Rattle.run_print.specs.Printing.{Prints}
use Rattle.run_print.proofs.printer.Printer.runs_among.Given as goal

abbrev pub invariant-loop-node : goal.invariant-loop-node
invariant-loop-node g l =
    Prints g.K.Sink.written g.K.Sink.faults l.initial.self l.initial.sink l.self l.sink
    (separated (codes ",") (map (λ q. running_text (works l.copies q)) (ids_below l.node)))
