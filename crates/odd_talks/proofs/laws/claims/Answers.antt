use Rattle.odd_talks.proofs.Runs.{claims_law}
use Rattle.odd_talks.proofs.laws.claims.Goals as goal

pub returns : goal.returns
returns c = claims_law
