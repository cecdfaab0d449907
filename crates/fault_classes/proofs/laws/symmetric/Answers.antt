use Rattle.fault_classes.proofs.Facts.{symmetric_law}
use Rattle.fault_classes.proofs.laws.symmetric.Goals as goal

pub returns : goal.returns
returns c = symmetric_law
