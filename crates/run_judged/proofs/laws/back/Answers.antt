use Rattle.run_judged.proofs.Deadlines.{back_law}
use Rattle.run_judged.proofs.laws.back.Goals as goal

pub returns : goal.returns
returns c = back_law c.claims.ensures c.safe.ensures c.over_time.ensures
