use Rattle.odd_relays.proofs.ItemLaws.{item_law, convicts_law}
use Rattle.odd_relays.proofs.laws.item.Goals as goal

pub returns-clause-settles : goal.returns-clause-settles
returns-clause-settles g c = item_law g.V.PartialEq.eq g.met.V.Exact.exact

pub returns-clause-convicts : goal.returns-clause-convicts
returns-clause-convicts g c = convicts_law g.V.PartialEq.eq
