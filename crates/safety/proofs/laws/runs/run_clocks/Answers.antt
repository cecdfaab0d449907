use Rattle.safety.proofs.Convictions.{run_clock_law}
use Rattle.safety.proofs.laws.runs.run_clocks.Goals as goal

pub returns : goal.returns
returns c = run_clock_law c.reception.ensures c.sparing_clocks.ensures
