use Rattle.fault_classes.proofs.Facts.{benign_law}
use Rattle.fault_classes.proofs.laws.benign.Goals as goal

pub returns : goal.returns
returns c = benign_law
