use Rattle.node_alone.proofs.Law.{alone_law}
use Rattle.node_alone.proofs.laws.alone.Goals as goal

pub returns : goal.returns
returns c = alone_law c.period.ensures c.delivery.ensures
