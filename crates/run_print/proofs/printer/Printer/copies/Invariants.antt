use Rattle.std.proofs.Common.{replicate}
use Rattle.std.specs.List.{flat_map}
use Rattle.run_text.specs.TraceText.{frame_text}
use Rattle.run_print.specs.Printing.{Prints}
use Rattle.run_print.proofs.printer.Printer.copies.Given as goal

abbrev pub invariant-loop-copy : goal.invariant-loop-copy
invariant-loop-copy g l =
    Prints g.K.Sink.written g.K.Sink.faults l.initial.self l.initial.sink l.self l.sink
    (flat_map (frame_text l.start l.to) (replicate l._copy (l.delivered.tick, l.delivered.bytes.now)))
