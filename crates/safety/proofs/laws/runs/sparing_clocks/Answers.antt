use Rattle.safety.proofs.Clocks.{sparing_clock_law}
use Rattle.safety.proofs.laws.runs.sparing_clocks.Goals as goal

pub returns : goal.returns
returns c = sparing_clock_law c.reception.ensures c.claimed_clocks.ensures
