use Rattle.safety.proofs.Offsets.{offset_law}
use Rattle.safety.proofs.laws.clocks.offsets.Goals as goal

pub returns : goal.returns
returns c = offset_law c.bounds.ensures
