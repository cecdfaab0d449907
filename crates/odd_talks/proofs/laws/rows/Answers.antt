use Rattle.odd_talks.proofs.Runs.{rows_law}
use Rattle.odd_talks.proofs.laws.rows.Goals as goal

pub returns : goal.returns
returns c = rows_law
