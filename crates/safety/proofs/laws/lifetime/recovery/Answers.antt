use Rattle.safety.proofs.Lifetime.{recovery_law}
use Rattle.safety.proofs.laws.lifetime.recovery.Goals as goal

pub returns : goal.returns
returns c = recovery_law c.reception.ensures c.start.ensures c.step.ensures c.members.ensures
