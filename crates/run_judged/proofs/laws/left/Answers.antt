use Rattle.run_judged.proofs.Deadlines.{left_law}
use Rattle.run_judged.proofs.laws.left.Goals as goal

pub returns : goal.returns
returns c = left_law c.claims.ensures c.safe.ensures c.over_time.ensures
