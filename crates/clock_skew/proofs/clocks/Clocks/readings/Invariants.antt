use Rattle.clock_skew.specs.Correction.{IsReading}
use Rattle.clock_skew.specs.Reading.{read_by}
use Rattle.clock_skew.proofs.Written.{AreWritten}
use Rattle.clock_skew.proofs.clocks.Clocks.readings.Given as goal

abbrev pub invariant-loop-j : goal.invariant-loop-j
invariant-loop-j g l = AreWritten IsReading (read_by l.self.plan.now l.self.nodes l.self.offset.now l.self.period l.i) g.row.N l.j l.readings
