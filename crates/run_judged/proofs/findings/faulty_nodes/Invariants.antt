use Rattle.std.proofs.Common.{◌≡◌, not}
use Rattle.node_grid.specs.Class.{is_nonfaulty}
use Rattle.node_grid.specs.NodeSet.{ids_where_below}
use Rattle.run_judged.specs.Found.{class_at}
use Rattle.run_judged.proofs.findings.faulty_nodes.Given as goal

abbrev pub invariant-loop-node : goal.invariant-loop-node
invariant-loop-node g l = l.faulty ≡ ids_where_below (λ j. not (is_nonfaulty (class_at l.seen.shown.now.head.classes j))) g.row.N l.node
