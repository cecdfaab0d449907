use Rattle.settled_items.proofs.Worlds.{convicting_law}
use Rattle.settled_items.proofs.laws.convicting.Goals as goal

pub returns : goal.returns
returns g c = convicting_law g.V.PartialEq.eq
