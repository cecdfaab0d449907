use Rattle.safety.proofs.Clocks.{claimed_clock_law}
use Rattle.safety.proofs.laws.clocks.claimed_clocks.Goals as goal

pub returns : goal.returns
returns c = claimed_clock_law c.start.ensures c.step.ensures c.clocks.ensures
