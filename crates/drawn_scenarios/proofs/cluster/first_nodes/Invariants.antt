use Rattle.std.proofs.Common.{◌≡◌, map, pos}
use Rattle.node_grid.specs.NodeSet.{ids_below}
use Rattle.drawn_scenarios.proofs.cluster.first_nodes.Given as goal

abbrev pub invariant-loop-node : goal.invariant-loop-node
invariant-loop-node l = l.nodes.items ≡ map pos (ids_below l.node)
