use Rattle.std.specs.Prelude.{slice_get}
use Rattle.std.specs.List.{flat_map}
use Rattle.node_grid.specs.NodeSet.{ids_below}
use Rattle.run_text.specs.PeriodText.{recorded_text}
use Rattle.run_print.specs.Printing.{Prints}
use Rattle.run_print.proofs.printer.Printer.nodes_with.Given as goal

abbrev pub invariant-loop-i : goal.invariant-loop-i
invariant-loop-i g l =
    Prints g.K.Sink.written g.K.Sink.faults l.initial.self l.initial.sink l.self l.sink
    (flat_map (λ i. recorded_text l.shown i (slice_get l.shown.records i)) (ids_below l.i))
