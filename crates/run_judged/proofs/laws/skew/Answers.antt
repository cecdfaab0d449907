use Rattle.run_judged.proofs.Close.{skew_law}
use Rattle.run_judged.proofs.laws.skew.Goals as goal

pub returns : goal.returns
returns c = skew_law c.clocks.ensures
