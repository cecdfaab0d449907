use Rattle.view_law.proofs.Keeping.{first_is}
use Rattle.view_law.proofs.beginning.Goals as goal

pub returns : goal.returns
returns c = first_is
