use Rattle.safety.proofs.SaidByView.{saying_law}
use Rattle.safety.proofs.laws.talk.saying.Goals as goal

pub returns : goal.returns
returns c = saying_law
