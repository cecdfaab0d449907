use Rattle.safety.proofs.Induction.{sync_law}
use Rattle.safety.proofs.laws.views.sync.Goals as goal

pub returns : goal.returns
returns c = sync_law
