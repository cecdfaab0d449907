use Rattle.path_order.specs.OrderLaws.{cursors_law}
use Rattle.path_order.proofs.laws.cursors.Goals as goal

pub returns : goal.returns
returns c = cursors_law
