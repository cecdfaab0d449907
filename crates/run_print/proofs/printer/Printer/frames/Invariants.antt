use Rattle.std.specs.List.{flat_map}
use Rattle.node_grid.specs.NodeSet.{ids_below}
use Rattle.run_text.specs.TraceText.{slot_text}
use Rattle.run_print.specs.Printing.{Prints}
use Rattle.run_print.proofs.printer.Printer.frames.Given as goal

abbrev pub invariant-loop-slot : goal.invariant-loop-slot
invariant-loop-slot g l =
    Prints g.K.Sink.written g.K.Sink.faults l.initial.self l.initial.sink l.self l.sink
    (flat_map (slot_text l.plan l.shown) (ids_below l.slot))
