use Rattle.std.proofs.Common.{◌≡◌, length}
use Rattle.std.specs.Prelude.{All}
use Rattle.cluster_record.specs.Buffers.{IsSlot}
use Rattle.cluster_record.proofs.record.opening.all_buffers.Given as goal

abbrev pub invariant-loop : goal.invariant-loop
invariant-loop l = (length l.sent.items ≡ l.counter) × All (IsSlot l.room l.nodes) l.sent.items
