use Rattle.run_judged.proofs.Spared.{spared_law}
use Rattle.run_judged.proofs.laws.spared.Goals as goal

pub returns : goal.returns
returns c = spared_law c.safe.ensures
