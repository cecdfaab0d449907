use Rattle.frames.specs.ReadingLaws.{has_no_prefix}
use Rattle.frames.proofs.laws.has_no_prefix.Goals as goal

pub returns : goal.returns
returns c = has_no_prefix
