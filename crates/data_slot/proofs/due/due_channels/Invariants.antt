use Rattle.std.proofs.Common.{◌≡◌}
use Rattle.std.specs.Prelude.{slice_index_or}
use Rattle.node_grid.specs.NodeSet.{ids_where}
use Rattle.protocol.specs.View.{no_channel}
use Rattle.data_slot.specs.Due.{due_by}
use Rattle.data_slot.proofs.due.due_channels.Given as goal

abbrev pub invariant-loop-c : goal.invariant-loop-c
invariant-loop-c g l = l.due.items ≡ ids_where (λ c. due_by (slice_index_or l.config.channels.items c no_channel) l.finished) l.c
