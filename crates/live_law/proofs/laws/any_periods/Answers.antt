use Rattle.live_law.proofs.Lives.{life}
use Rattle.live_law.proofs.laws.any_periods.Goals as goal

pub returns : goal.returns
returns c = life c.period.ensures
