use Rattle.frames.specs.ReadingLaws.{reads_cold}
use Rattle.frames.proofs.laws.reads_cold.Goals as goal

pub returns : goal.returns
returns c = reads_cold
