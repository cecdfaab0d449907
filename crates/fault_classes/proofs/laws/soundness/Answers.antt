use Rattle.fault_classes.proofs.Facts.{soundness_law}
use Rattle.fault_classes.proofs.laws.soundness.Goals as goal

pub returns : goal.returns
returns c = soundness_law
