use Rattle.safety.proofs.Lifetime.{standing_law}
use Rattle.safety.proofs.laws.lifetime.standing.Goals as goal

pub returns : goal.returns
returns c = standing_law c.runs.ensures c.reception.ensures c.start.ensures c.step.ensures c.members.ensures
