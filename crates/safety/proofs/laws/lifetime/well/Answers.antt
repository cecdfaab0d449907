use Rattle.safety.proofs.Lifetime.{well_law}
use Rattle.safety.proofs.laws.lifetime.well.Goals as goal

pub returns : goal.returns
returns c = well_law c.reception.ensures c.start.ensures c.step.ensures c.members.ensures
