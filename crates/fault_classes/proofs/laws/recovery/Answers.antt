use Rattle.fault_classes.proofs.Facts.{recovery_law}
use Rattle.fault_classes.proofs.laws.recovery.Goals as goal

pub returns : goal.returns
returns c = recovery_law
