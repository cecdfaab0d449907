use Rattle.safety.proofs.Clocks.{clock_law}
use Rattle.safety.proofs.laws.clocks.clocks.Goals as goal

pub returns : goal.returns
returns c = clock_law c.skew.ensures c.drift.ensures
