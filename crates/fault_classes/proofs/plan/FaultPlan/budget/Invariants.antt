use Rattle.std.proofs.Common.{◌≡◌, ◌+◌, ◌++◌, ◌≤◌, length}
use Rattle.node_grid.specs.Count.{count}
use Rattle.node_grid.specs.Class.{is_asymmetric, is_symmetric, is_silent}
use Rattle.fault_classes.specs.Budget.{counts_as}
use Rattle.fault_classes.proofs.plan.FaultPlan.budget.Given as goal

abbrev pub invariant-loop-node : goal.invariant-loop-node
invariant-loop-node g l = record {
  can : (goal.iterator-loop-node g).can_next l.node-iterator;
  ends : (goal.iterator-loop-node g).is_finite l.node-iterator;
  split : l.members ≡ l.yielded ++ l.node-iterator;
  all : l.budget.n ≡ length l.members;
  asymmetric : l.budget.a ≡ count (counts_as is_asymmetric l.self l.period) l.yielded;
  symmetric : l.budget.s ≡ count (counts_as is_symmetric l.self l.period) l.yielded;
  silent : l.budget.b ≡ count (counts_as is_silent l.self l.period) l.yielded;
  few : l.budget.a + l.budget.s + l.budget.b ≤ length l.yielded;
}
