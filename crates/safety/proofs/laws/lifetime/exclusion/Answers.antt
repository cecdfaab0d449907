use Rattle.safety.proofs.Lifetime.{exclusion_law}
use Rattle.safety.proofs.laws.lifetime.exclusion.Goals as goal

pub returns : goal.returns
returns c = exclusion_law c.reception.ensures c.start.ensures c.step.ensures c.members.ensures
