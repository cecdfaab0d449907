use Rattle.odd_relays.proofs.ChainLaws.{told_law}
use Rattle.odd_relays.proofs.Sparing.{spared_law}
use Rattle.odd_relays.proofs.laws.told.Goals as goal

pub returns-clause-settles : goal.returns-clause-settles
returns-clause-settles g c = told_law g.V.PartialEq.eq g.met.V.Exact.exact

pub returns-clause-spared : goal.returns-clause-spared
returns-clause-spared g c = spared_law g.V.PartialEq.eq g.met.V.Exact.exact
