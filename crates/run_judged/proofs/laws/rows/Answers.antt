use Rattle.run_judged.proofs.Rowed.{row_law}
use Rattle.run_judged.proofs.laws.rows.Goals as goal

pub returns : goal.returns
returns c = row_law c.safe.ensures
