use Rattle.clock_skew.specs.Reading.{moved}
use Rattle.clock_skew.proofs.Written.{AreWritten}
use Rattle.clock_skew.proofs.clocks.Clocks.all_moved.Given as goal

abbrev pub invariant-loop-i : goal.invariant-loop-i
invariant-loop-i g l = AreWritten (λ z. Unit {0}) (moved l.self.plan.now l.self.nodes l.self.offset.now l.correction l.self.period) g.row.N l.i l.after
