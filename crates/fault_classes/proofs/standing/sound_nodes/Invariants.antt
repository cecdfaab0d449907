use Rattle.std.proofs.Common.{◌≡◌, suc}
use Rattle.node_grid.specs.NodeSet.{ids_where_below}
use Rattle.fault_classes.specs.Plan.{sound_before}
use Rattle.fault_classes.proofs.standing.sound_nodes.Given as goal

abbrev pub invariant-loop-node : goal.invariant-loop-node
invariant-loop-node g l = l.found ≡ ids_where_below (sound_before l.index (suc l.period)) g.row.N l.node
