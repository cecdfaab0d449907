use Rattle.node_steps.proofs.Ordering.{order_is_free}
use Rattle.node_steps.proofs.laws.order_is_free.Goals as goal

pub returns : goal.returns
returns c = order_is_free c.order_is_free.ensures
