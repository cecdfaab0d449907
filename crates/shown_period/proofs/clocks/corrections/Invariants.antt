use Rattle.clock_skew.specs.Correction.{IsReading}
use Rattle.cluster_record.specs.Clocking.{correction_by}
use Rattle.clock_skew.proofs.Written.{AreWritten}
use Rattle.shown_period.specs.Outcomes.{outcomes}
use Rattle.shown_period.proofs.clocks.corrections.Given as goal

abbrev pub invariant-loop-i : goal.invariant-loop-i
invariant-loop-i g l = AreWritten IsReading (correction_by g.row.N l.clocks.plan.now l.m l.clocks.offset.now l.clocks.period (outcomes l.made l.clocks.nodes)) g.row.N l.i l.corrections
