use Rattle.std.proofs.Common.{◌≡◌, ◌++◌}
use Rattle.std.specs.Prelude.{is_some}
use Rattle.task_graph.specs.Graph.{task_at}
use Rattle.list_scheduler.specs.Copies.{table, running}
use Rattle.list_scheduler.specs.ByTask.{moved}
use Rattle.list_scheduler.proofs.Found.{found}
use Rattle.list_scheduler.proofs.Moving.{among}
use Rattle.list_scheduler.proofs.copies.Copies.move_task.Given as goal

abbrev pub invariant-loop-node : goal.invariant-loop-node
invariant-loop-node g l = record {
  can : (goal.iterator-loop-node g).can_next l.node-iterator;
  ends : (goal.iterator-loop-node g).is_finite l.node-iterator;
  split : (task_at l.graph.tasks l.t).nodes ≡ l.yielded ++ l.node-iterator;
  copies : l.self ≡ table g.row.N (among l.t l.yielded (moved l.graph l.before l.after l.fn.self l.claims) l.fn.self);
  busy : l.busy ≡ found g.row.N (λ q. is_some (running (moved l.graph l.before l.after l.fn.self l.claims l.t q))) l.yielded;
}
