use Rattle.settled_items.proofs.Worlds.{plain_law, spared}
use Rattle.settled_items.proofs.laws.plain.Goals as goal

pub returns-clause-settles : goal.returns-clause-settles
returns-clause-settles g c = plain_law g.V.PartialEq.eq g.met.V.Exact.exact

pub returns-clause-spared : goal.returns-clause-spared
returns-clause-spared g c = spared g.V.PartialEq.eq g.met.V.Exact.exact
