use Rattle.safety.proofs.Convergence.{starts_law}
use Rattle.safety.proofs.laws.convergence.starts.Goals as goal

pub returns : goal.returns
returns c = starts_law c.reception.ensures c.start.ensures c.step.ensures c.members.ensures c.values.ensures
