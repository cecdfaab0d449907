use Rattle.frames.specs.ReadingLaws.{reads_in_range}
use Rattle.frames.proofs.laws.reads_in_range.Goals as goal

pub returns : goal.returns
returns c = reads_in_range
