use Rattle.safety.proofs.Lifetime.{return_law}
use Rattle.safety.proofs.laws.lifetime.returning.Goals as goal

pub returns : goal.returns
returns c = return_law c.reception.ensures c.start.ensures c.step.ensures c.members.ensures
