use Rattle.live_law.proofs.LiveLife.{say_law}
use Rattle.live_law.proofs.laws.says.Goals as goal

pub returns : goal.returns
returns c = say_law c.period.ensures
