use Rattle.path_order.specs.OrderLaws.{free_members_law}
use Rattle.path_order.proofs.laws.free_members.Goals as goal

pub returns : goal.returns
returns c = free_members_law
