use Rattle.std.proofs.Common.{take}
use Rattle.std.specs.List.{flat_map}
use Rattle.run_print.specs.Printing.{Prints}
use Rattle.judge_text.specs.Rows.{ill_row}
use Rattle.judge_text.proofs.rows.illnesses.Given as goal

abbrev pub invariant-loop-illness : goal.invariant-loop-illness
invariant-loop-illness g l =
    Prints g.K.Sink.written g.K.Sink.faults l.initial.printer l.initial.sink l.printer l.sink (flat_map (ill_row l.line) (take l.illness-index l.all))
