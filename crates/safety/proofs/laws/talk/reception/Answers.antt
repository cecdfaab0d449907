use Rattle.safety.proofs.Runs.{reception_law}
use Rattle.safety.proofs.laws.talk.reception.Goals as goal

pub returns : goal.returns
returns c = reception_law
