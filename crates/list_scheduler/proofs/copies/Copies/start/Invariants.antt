use Rattle.std.proofs.Common.{◌≡◌, ◌++◌}
use Rattle.list_scheduler.specs.Copies.{table}
use Rattle.list_scheduler.specs.ByTask.{started}
use Rattle.list_scheduler.proofs.copies.Copies.start.Given as goal

abbrev pub invariant-loop-node : goal.invariant-loop-node
invariant-loop-node g l = record {
  can : (goal.iterator-loop-node g).can_next l.node-iterator;
  ends : (goal.iterator-loop-node g).is_finite l.node-iterator;
  split : l.nodes ≡ l.yielded ++ l.node-iterator;
  copies : l.self ≡ table g.row.N (started l.t l.yielded l.fn.self);
}
