use Rattle.omh.specs.Items.{items_agree, items_stand, items_fail}
use Rattle.omh.proofs.laws.items.Goals as goal

pub returns-clause-agree : goal.returns-clause-agree
returns-clause-agree g c = items_agree g.V.PartialEq.eq g.met.V.Exact.exact

pub returns-clause-stand : goal.returns-clause-stand
returns-clause-stand g c = items_stand g.V.PartialEq.eq g.met.V.Exact.exact

pub returns-clause-fail : goal.returns-clause-fail
returns-clause-fail g c = items_fail g.V.PartialEq.eq g.met.V.Exact.exact
