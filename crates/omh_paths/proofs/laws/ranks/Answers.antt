use Rattle.omh_paths.proofs.Ordering.{ranks_law}
use Rattle.omh_paths.proofs.laws.ranks.Goals as goal

pub returns : goal.returns
returns c = ranks_law
