use Rattle.std.proofs.Common.{take}
use Rattle.run_print.specs.Printing.{Prints}
use Rattle.judge_text.specs.Rows.{skew_rows}
use Rattle.judge_text.proofs.rows.skews.Given as goal

abbrev pub invariant-loop-period : goal.invariant-loop-period
invariant-loop-period g l =
    Prints g.K.Sink.written g.K.Sink.faults l.initial.printer l.initial.sink l.printer l.sink (skew_rows l.line 0 (take l.period l.all))
