use Rattle.omh_paths.proofs.Ordering.{paths_law}
use Rattle.omh_paths.proofs.laws.paths.Goals as goal

pub returns : goal.returns
returns c = paths_law
