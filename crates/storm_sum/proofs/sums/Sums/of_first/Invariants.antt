use Rattle.std.proofs.Common.{◌≡◌}
use Rattle.scenario.specs.Scenario.{system_of}
use Rattle.storm_sum.specs.Summing.{AreSums}
use Rattle.storm_sum.proofs.sums.Sums.of_first.Given as goal

abbrev pub invariant-loop-period : goal.invariant-loop-period
invariant-loop-period l = record {
  run : l.run.run ≡ l._period;
  scenario : l.run.scenario ≡ l.fn.run.scenario;
  sums : AreSums (system_of l.fn.run.scenario) l._period l.sums;
}
