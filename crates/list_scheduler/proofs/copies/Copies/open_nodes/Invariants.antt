use Rattle.std.proofs.Common.{◌≡◌, ◌++◌}
use Rattle.std.specs.Prelude.{◌&&◌}
use Rattle.node_grid.specs.NodeSet.{has_id}
use Rattle.task_graph.specs.Graph.{task_at}
use Rattle.list_scheduler.specs.Copies.{copy_at, is_idle}
use Rattle.list_scheduler.proofs.Found.{found}
use Rattle.list_scheduler.proofs.copies.Copies.open_nodes.Given as goal

abbrev pub invariant-loop-node : goal.invariant-loop-node
invariant-loop-node g l = record {
  can : (goal.iterator-loop-node g).can_next l.node-iterator;
  ends : (goal.iterator-loop-node g).is_finite l.node-iterator;
  split : (task_at l.graph.tasks l.t).nodes ≡ l.yielded ++ l.node-iterator;
  open_so_far : l.open ≡ found g.row.N (λ q. has_id l.free q && is_idle (copy_at l.self l.t q)) l.yielded;
}
