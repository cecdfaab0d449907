use Rattle.live_law.proofs.LiveLife.{live_life}
use Rattle.live_law.proofs.laws.life.Goals as goal

pub returns : goal.returns
returns c = live_life c.period.ensures
