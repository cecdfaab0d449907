use Rattle.std.proofs.Common.{refl}
use Rattle.scenario.specs.Scenario.{system_of}
use Rattle.storm_sum.proofs.Summing.{sums_first}
use Rattle.storm_sum.proofs.sums.Sums.of_first.Goals as goal

pub loop-period-init : goal.loop-period-init
loop-period-init c = record {
  run = c.requires.first;
  scenario = refl;
  sums = sums_first (system_of c.args.run.now.scenario) c.none-sums.result c.none-sums.ensures.claimed c.none-sums.ensures.excluded c.none-sums.ensures.readmitted;
}
