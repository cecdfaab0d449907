use Rattle.safety.proofs.Convergence.{started_clocks_law}
use Rattle.safety.proofs.laws.convergence.skew_from_start.Goals as goal

pub returns : goal.returns
returns c = started_clocks_law c.reception.ensures c.skew.ensures
