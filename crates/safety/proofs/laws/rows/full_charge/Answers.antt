use Rattle.safety.proofs.Charges.{full_charge_law}
use Rattle.safety.proofs.laws.rows.full_charge.Goals as goal

pub returns : goal.returns
returns c = full_charge_law
