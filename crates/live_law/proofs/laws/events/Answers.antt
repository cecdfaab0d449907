use Rattle.live_law.proofs.Parsing.{events_law}
use Rattle.live_law.proofs.laws.events.Goals as goal

pub returns : goal.returns
returns c = events_law c.period.ensures
