use Rattle.frames.specs.EntryLaws.{values_spelt}
use Rattle.frames.proofs.values.Values.bytes.Goals as goal

pub returns : goal.returns
returns c = values_spelt c.args.self.now.bytes.now c.args.self.now.whole c.args.self.now.small
