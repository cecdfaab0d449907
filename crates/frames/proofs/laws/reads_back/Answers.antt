use Rattle.frames.specs.ReadingLaws.{reads_back}
use Rattle.frames.proofs.laws.reads_back.Goals as goal

pub returns : goal.returns
returns c = reads_back
