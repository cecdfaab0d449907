use Rattle.frames.specs.ReadingLaws.{reads_exactly}
use Rattle.frames.proofs.laws.reads_exactly.Goals as goal

pub returns : goal.returns
returns c = reads_exactly
