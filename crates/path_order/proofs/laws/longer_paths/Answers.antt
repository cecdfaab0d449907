use Rattle.path_order.specs.OrderLaws.{longer_paths_law}
use Rattle.path_order.proofs.laws.longer_paths.Goals as goal

pub returns : goal.returns
returns c = longer_paths_law
