use Rattle.std.specs.List.{flat_map}
use Rattle.node_grid.specs.NodeSet.{ids_below}
use Rattle.run_text.specs.TraceText.{link_text}
use Rattle.run_print.specs.Printing.{Prints}
use Rattle.run_print.proofs.printer.Printer.receivers.Given as goal

abbrev pub invariant-loop-to : goal.invariant-loop-to
invariant-loop-to g l =
    Prints g.K.Sink.written g.K.Sink.faults l.initial.self l.initial.sink l.self l.sink
    (flat_map (link_text l.traced.plan.now l.traced.shown.now l.traced.slot l.from) (ids_below l.to))
