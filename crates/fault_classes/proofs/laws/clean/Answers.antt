use Rattle.fault_classes.proofs.Facts.{clean_law}
use Rattle.fault_classes.proofs.laws.clean.Goals as goal

pub returns : goal.returns
returns c = clean_law
