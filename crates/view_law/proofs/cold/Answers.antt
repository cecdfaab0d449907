use Rattle.view_law.proofs.Keeping.{cold_is}
use Rattle.view_law.proofs.cold.Goals as goal

pub returns : goal.returns
returns c = cold_is
