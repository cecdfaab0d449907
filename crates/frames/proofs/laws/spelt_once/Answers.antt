use Rattle.frames.specs.ReadingLaws.{spelt_once}
use Rattle.frames.proofs.laws.spelt_once.Goals as goal

pub returns : goal.returns
returns c = spelt_once
