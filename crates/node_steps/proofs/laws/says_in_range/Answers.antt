use Rattle.node_grid.specs.CapacityLaws.{capacity-le}
use Rattle.node_steps.proofs.SaidInRange.{said_fits}
use Rattle.node_steps.proofs.laws.says_in_range.Goals as goal

pub returns : goal.returns
returns c = λ N v cap ok h open'. said_fits v (capacity-le N cap) ok h open'
