use Rattle.odd_relays.proofs.ChainLaws.{chain_law, regular_law}
use Rattle.odd_relays.proofs.ItemLaws.{views_law}
use Rattle.odd_relays.proofs.laws.chains.Goals as goal

pub returns-clause-chains : goal.returns-clause-chains
returns-clause-chains g c = chain_law g.V.PartialEq.eq g.met.V.Exact.exact

pub returns-clause-regular : goal.returns-clause-regular
returns-clause-regular g c = regular_law g.V.PartialEq.eq g.met.V.Exact.exact

pub returns-clause-views : goal.returns-clause-views
returns-clause-views g c = views_law g.V.PartialEq.eq
