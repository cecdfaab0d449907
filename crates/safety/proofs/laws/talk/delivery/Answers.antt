use Rattle.safety.proofs.Deliveries.{delivery_law}
use Rattle.safety.proofs.laws.talk.delivery.Goals as goal

pub returns : goal.returns
returns c = delivery_law
