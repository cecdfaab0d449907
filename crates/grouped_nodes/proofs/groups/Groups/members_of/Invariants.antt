use Rattle.std.proofs.Common.{ℕ, ◌≡◌, ◌==◌}
use Rattle.node_grid.specs.NodeSet.{ids_where_below}
use Rattle.grouped_nodes.specs.Grouping.{first_of}
use Rattle.grouped_nodes.proofs.groups.Groups.members_of.Given as goal

abbrev pub invariant-loop-i : goal.invariant-loop-i
invariant-loop-i g l = l.members ≡ ids_where_below (λ (j : ℕ). first_of l.self j == l.first) g.row.N l.i
