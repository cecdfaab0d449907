use Rattle.std.proofs.Common.{map, take}
use Rattle.std.specs.Prelude.{codes}
use Rattle.run_text.specs.Text.{separated, vote_item}
use Rattle.run_print.specs.Printing.{Prints}
use Rattle.run_print.proofs.printer.Printer.votes.Given as goal

abbrev pub invariant-loop-k : goal.invariant-loop-k
invariant-loop-k g l =
    Prints g.K.Sink.written g.K.Sink.faults l.initial.self l.initial.sink l.self l.sink
    (separated (codes " ") (map (vote_item l.votes) (take l.k l.due)))
