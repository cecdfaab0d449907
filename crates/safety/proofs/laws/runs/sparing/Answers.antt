use Rattle.safety.proofs.Runs.{sparing_law}
use Rattle.safety.proofs.laws.runs.sparing.Goals as goal

pub returns : goal.returns
returns c = sparing_law c.reception.ensures c.safety.ensures
