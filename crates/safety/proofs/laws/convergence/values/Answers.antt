use Rattle.safety.proofs.Convergence.{values_law}
use Rattle.safety.proofs.laws.convergence.values.Goals as goal

pub returns : goal.returns
returns c = values_law c.reception.ensures c.start.ensures c.step.ensures c.members.ensures
