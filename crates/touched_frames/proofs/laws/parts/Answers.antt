use Rattle.touched_frames.proofs.Effects.{parts_law}
use Rattle.touched_frames.proofs.laws.parts.Goals as goal

pub returns : goal.returns
returns g c = parts_law
