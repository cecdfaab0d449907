use Rattle.std.proofs.Common.{◌≡◌, ◌++◌}
use Rattle.std.specs.Prelude.{is_none}
use Rattle.list_scheduler.specs.Copies.{works}
use Rattle.list_scheduler.proofs.Found.{found}
use Rattle.list_scheduler.proofs.copies.Copies.resting.Given as goal

abbrev pub invariant-loop-node : goal.invariant-loop-node
invariant-loop-node g l = record {
  can : (goal.iterator-loop-node g).can_next l.node-iterator;
  ends : (goal.iterator-loop-node g).is_finite l.node-iterator;
  split : l.members ≡ l.yielded ++ l.node-iterator;
  resting : l.resting ≡ found g.row.N (λ q. is_none (works l.self q)) l.yielded;
}
