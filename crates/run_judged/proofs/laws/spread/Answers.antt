use Rattle.run_judged.proofs.Close.{spread_law}
use Rattle.run_judged.proofs.laws.spread.Goals as goal

pub returns : goal.returns
returns c = spread_law c.safe.ensures
