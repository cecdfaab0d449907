use Rattle.safety.proofs.Induction.{claims_law}
use Rattle.safety.proofs.laws.views.claims.Goals as goal

pub returns : goal.returns
returns c = claims_law
