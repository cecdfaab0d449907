use Rattle.safety.proofs.Convictions.{spared_law}
use Rattle.safety.proofs.laws.views.spared.Goals as goal

pub returns : goal.returns
returns c = spared_law
