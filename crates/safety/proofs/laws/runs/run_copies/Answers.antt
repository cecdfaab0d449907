use Rattle.safety.proofs.Convictions.{run_copies_law}
use Rattle.safety.proofs.laws.runs.run_copies.Goals as goal

pub returns : goal.returns
returns c = run_copies_law c.runs.ensures
