use Rattle.std.proofs.Common.{◌≤◌, drop, map, length}
use Rattle.clock_skew.specs.Clock.{lie_of}
use Rattle.clock_skew.proofs.Told.{AreTold}
use Rattle.clock_skew.proofs.plan.ClockPlan.lies_to.Given as goal

abbrev pub invariant-loop-place : goal.invariant-loop-place
invariant-loop-place g l = record {
  within : l.place ≤ length l.lies;
  told : AreTold g.row.N l.i l.period (drop l.place (map lie_of l.lies)) l.told;
}

abbrev pub decreases-loop-place : goal.decreases-loop-place
decreases-loop-place g l = l.place
