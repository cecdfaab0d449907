use Rattle.std.proofs.Common.{◌≡◌}
use Rattle.node_grid.specs.NodeSet.{ids_below}
use Rattle.node_grid.specs.Count.{count}
use Rattle.list_scheduler.specs.Copies.{copy_at, is_passed}
use Rattle.list_scheduler.proofs.copies.Copies.finished.Given as goal

abbrev pub invariant-loop-node : goal.invariant-loop-node
invariant-loop-node g l = l.passed ≡ count (λ q. is_passed (copy_at l.self l.t q)) (ids_below l.node)
