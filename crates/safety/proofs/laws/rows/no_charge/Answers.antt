use Rattle.safety.proofs.Charges.{no_charge_law}
use Rattle.safety.proofs.laws.rows.no_charge.Goals as goal

pub returns : goal.returns
returns c = no_charge_law
