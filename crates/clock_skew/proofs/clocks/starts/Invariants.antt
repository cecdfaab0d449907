use Rattle.clock_skew.specs.Reading.{start_of}
use Rattle.clock_skew.proofs.Written.{AreWritten}
use Rattle.clock_skew.proofs.clocks.starts.Given as goal

abbrev pub invariant-loop-i : goal.invariant-loop-i
invariant-loop-i g l = AreWritten (λ z. Unit {0}) (start_of l.plan l.nodes) g.row.N l.i l.offset
