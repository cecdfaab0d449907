use Rattle.std.proofs.Common.{◌≡◌, length}
use Rattle.std.specs.Prelude.{All}
use Rattle.cluster_record.specs.Buffers.{IsBuffer}
use Rattle.cluster_record.proofs.record.opening.slot_buffers.Given as goal

abbrev pub invariant-loop : goal.invariant-loop
invariant-loop l = (length l.frames.items ≡ l.counter) × All (IsBuffer l.room) l.frames.items
