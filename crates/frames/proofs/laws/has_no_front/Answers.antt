use Rattle.frames.specs.ReadingLaws.{has_no_front}
use Rattle.frames.proofs.laws.has_no_front.Goals as goal

pub returns : goal.returns
returns c = has_no_front
