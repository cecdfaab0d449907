use Rattle.safety.proofs.Lifetime.{remain_law}
use Rattle.safety.proofs.laws.lifetime.remaining.Goals as goal

pub returns : goal.returns
returns c = remain_law c.reception.ensures c.start.ensures c.step.ensures c.members.ensures
