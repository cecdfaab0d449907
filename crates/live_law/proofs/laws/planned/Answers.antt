use Rattle.live_law.proofs.Planned.{plan_law}
use Rattle.live_law.proofs.laws.planned.Goals as goal

pub returns : goal.returns
returns c = plan_law c.period.ensures c.delivery.ensures c.saying.ensures
