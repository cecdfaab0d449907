use Rattle.std.proofs.Common.{◌≡◌, map}
use Rattle.node_grid.specs.NodeSet.{ids_below}
use Rattle.drawn_scenarios.specs.Series.{number_at}
use Rattle.drawn_scenarios.proofs.series.Series.row.Given as goal

abbrev pub invariant-loop-node : goal.invariant-loop-node
invariant-loop-node l = l.numbers.items ≡ map (number_at l.self l.row) (ids_below l.node)
