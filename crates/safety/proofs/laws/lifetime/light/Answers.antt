use Rattle.safety.proofs.Lifetime.{light_law}
use Rattle.safety.proofs.laws.lifetime.light.Goals as goal

pub returns : goal.returns
returns c = light_law c.reception.ensures c.start.ensures c.step.ensures c.members.ensures
