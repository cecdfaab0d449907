use Rattle.settled_paths.proofs.Worlds.{passing_law}
use Rattle.settled_paths.proofs.laws.passing.Goals as goal

pub returns : goal.returns
returns g c = passing_law g.V.PartialEq.eq
