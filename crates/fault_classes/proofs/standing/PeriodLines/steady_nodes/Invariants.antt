use Rattle.std.proofs.Common.{◌≡◌}
use Rattle.node_grid.specs.NodeSet.{ids_where_below}
use Rattle.fault_classes.specs.Plan.{steady, sound_before}
use Rattle.fault_classes.proofs.standing.PeriodLines.steady_nodes.Given as goal

abbrev pub invariant-loop-node : goal.invariant-loop-node
invariant-loop-node g l = l.found ≡ ids_where_below (steady l.self.index.now l.self.period (sound_before l.self.index.now l.self.period)) g.row.N l.node
