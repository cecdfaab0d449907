use Rattle.std.proofs.Common.{ℕ, ◌≡◌, ◌==◌}
use Rattle.node_grid.specs.NodeSet.{ids_where_below}
use Rattle.grouped_nodes.specs.Grouping.{first_of}
use Rattle.grouped_nodes.proofs.groups.Groups.firsts.Given as goal

abbrev pub invariant-loop-i : goal.invariant-loop-i
invariant-loop-i g l = l.firsts ≡ ids_where_below (λ (j : ℕ). first_of l.self j == j) g.row.N l.i
