use Rattle.std.proofs.Common.{take}
use Rattle.frames.specs.Reading.{content_values}
use Rattle.protocol.specs.View.{value_of}
use Rattle.told_values.proofs.ByPlace.{HasValues}
use Rattle.told_values.proofs.places.Due.read_by_place.Given as goal

abbrev pub invariant-loop-k : goal.invariant-loop-k
invariant-loop-k l = HasValues (take l.k l.self.channels.now) (value_of l.self.channels.now (content_values l.values.bytes.now)) l.told
