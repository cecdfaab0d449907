use Rattle.std.proofs.Common.{take, map}
use Rattle.std.specs.Prelude.{codes, decimal}
use Rattle.run_print.specs.Printing.{Prints}
use Rattle.run_text.specs.Text.{separated}
use Rattle.run_print.proofs.printer.Printer.numbers.Given as goal

abbrev pub invariant-loop-k : goal.invariant-loop-k
invariant-loop-k g l =
    Prints g.K.Sink.written g.K.Sink.faults l.initial.self l.initial.sink l.self l.sink
    (separated (codes ",") (map decimal (take l.k l.numbers)))
