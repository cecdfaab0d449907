use Rattle.safety.proofs.Convergence.{clocks_settle_law}
use Rattle.safety.proofs.laws.convergence.skew.Goals as goal

pub returns : goal.returns
returns c = clocks_settle_law c.reception.ensures c.start.ensures c.step.ensures c.clocks.ensures
