use Rattle.safety.proofs.Induction.{start_law}
use Rattle.safety.proofs.laws.views.start.Goals as goal

pub returns : goal.returns
returns c = start_law
