use Rattle.std.proofs.Common.{◌≡◌, drop}
use Rattle.node_grid.proofs.node_set.NodeSet.nth.Given as goal

abbrev pub invariant-loop : goal.invariant-loop
invariant-loop g l = l.left ≡ drop l.counter l.self
