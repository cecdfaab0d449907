use Rattle.view_law.proofs.Keeping.{through_is}
use Rattle.view_law.proofs.through.Goals as goal

pub returns : goal.returns
returns c = through_is
