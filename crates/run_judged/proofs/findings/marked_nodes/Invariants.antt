use Rattle.std.proofs.Common.{◌≡◌, not, get_or}
use Rattle.std.specs.Prelude.{◌==◌}
use Rattle.node_grid.specs.NodeSet.{ids_where_below}
use Rattle.run_judged.proofs.findings.marked_nodes.Given as goal

abbrev pub invariant-loop-node : goal.invariant-loop-node
invariant-loop-node g l = l.marked ≡ ids_where_below (λ j. not (get_or l.masks j 0 == 0)) g.row.N l.node
