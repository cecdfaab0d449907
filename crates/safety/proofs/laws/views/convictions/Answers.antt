use Rattle.safety.proofs.Convictions.{convictions_law}
use Rattle.safety.proofs.laws.views.convictions.Goals as goal

pub returns : goal.returns
returns c = convictions_law
