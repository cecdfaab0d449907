use Rattle.frames.specs.ReadingLaws.{is_short}
use Rattle.frames.proofs.laws.is_short.Goals as goal

pub returns : goal.returns
returns c = is_short
