use Rattle.std.proofs.Common.{◌≡◌, map}
use Rattle.node_grid.specs.NodeSet.{ids_below}
use Rattle.drawn_scenarios.specs.Series.{row}
use Rattle.drawn_scenarios.proofs.series.Series.three_rows.Given as goal

abbrev pub invariant-loop-row : goal.invariant-loop-row
invariant-loop-row l = map (λ r. r.items) l.rows.items ≡ map (row l.self l.nodes) (ids_below l.row)
