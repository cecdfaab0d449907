use Rattle.safety.proofs.Convictions.{run_convictions_law}
use Rattle.safety.proofs.laws.runs.run_convictions.Goals as goal

pub returns : goal.returns
returns c = run_convictions_law c.reception.ensures c.start.ensures c.step.ensures
