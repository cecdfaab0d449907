use Rattle.std.proofs.Common.{take}
use Rattle.frames.specs.Reading.{content_values}
use Rattle.protocol.specs.View.{value_of}
use Rattle.data_slot.proofs.ByChannel.{HasValues}
use Rattle.data_slot.proofs.told.values_by_channel.Given as goal

abbrev pub invariant-loop-k : goal.invariant-loop-k
invariant-loop-k l = HasValues (take l.k l.due) (value_of l.due (content_values l.values.bytes.now)) l.told
