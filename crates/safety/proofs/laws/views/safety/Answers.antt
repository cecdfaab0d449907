use Rattle.safety.proofs.Induction.{safety_law}
use Rattle.safety.proofs.laws.views.safety.Goals as goal

pub returns : goal.returns
returns c = safety_law c.start.ensures c.step.ensures
