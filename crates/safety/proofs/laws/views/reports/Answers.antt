use Rattle.safety.proofs.Induction.{reports_law}
use Rattle.safety.proofs.laws.views.reports.Goals as goal

pub returns : goal.returns
returns c = reports_law
