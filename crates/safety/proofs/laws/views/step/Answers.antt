use Rattle.safety.proofs.Induction.{step_law}
use Rattle.safety.proofs.laws.views.step.Goals as goal

pub returns : goal.returns
returns c = step_law c.members.ensures
