use Rattle.told_values.proofs.Running.{hears_law}
use Rattle.told_values.proofs.laws.hears.Goals as goal

pub returns : goal.returns
returns c = hears_law
