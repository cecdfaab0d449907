use Rattle.cluster_periods.proofs.Listed.{periods_law}
use Rattle.cluster_periods.proofs.laws.periods.Goals as goal

pub returns : goal.returns
returns c = periods_law c.period.ensures c.delivery.ensures c.saying.ensures
