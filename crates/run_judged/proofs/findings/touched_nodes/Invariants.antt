use Rattle.std.proofs.Common.{◌≡◌, not}
use Rattle.node_grid.specs.NodeSet.{ids_where_below}
use Rattle.fault_classes.specs.Plan.{is_clean}
use Rattle.run_judged.proofs.findings.touched_nodes.Given as goal

abbrev pub invariant-loop-node : goal.invariant-loop-node
invariant-loop-node g l = l.touched ≡ ids_where_below (λ j. not (is_clean l.plan l.period j)) g.row.N l.node
