use Rattle.std.proofs.Common.{◌≡◌, ℕ, ◌&&◌, nat_le, nat_lt, [], slice_index_or}
use Rattle.std.specs.Prelude.{if◌then◌else◌}
use Rattle.node_grid.specs.NodeSet.{with_id}
use Rattle.fault_classes.proofs.touches.put_sender.Given as goal

abbrev pub invariant-loop-period : goal.invariant-loop-period
invariant-loop-period g l =
    (p : ℕ)
    → slice_index_or l.sets p []
    ≡ (if nat_le l.line.first p && nat_lt p l.period then with_id g.row.N (slice_index_or l.initial.sets p []) l.line.from else slice_index_or l.initial.sets p [])
