use Rattle.std.proofs.Common.{◌≡◌}
use Rattle.node_grid.specs.NodeSet.{ids_where}
use Rattle.list_scheduler.specs.Copies.{table}
use Rattle.list_scheduler.proofs.Picking.{picked_below, is_free}
use Rattle.list_scheduler.proofs.copies.Copies.start_on.Given as goal

abbrev pub invariant-loop-t : goal.invariant-loop-t
invariant-loop-t g l = record {
  copies : l.self ≡ table g.row.N (picked_below l.t l.graph l.nodes l.fn.self);
  free : l.free ≡ ids_where (is_free l.t l.graph l.nodes l.fn.self) g.row.N;
}
