use Rattle.safety.proofs.Convictions.{run_law}
use Rattle.safety.proofs.laws.runs.runs.Goals as goal

pub returns : goal.returns
returns c = run_law c.reception.ensures c.sparing.ensures
