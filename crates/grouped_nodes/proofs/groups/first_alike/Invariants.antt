use Rattle.std.proofs.Common.{ℕ, ◌≡◌, ◌<◌, true, false}
use Rattle.node_grid.specs.NodeSet.{has_id}
use Rattle.grouped_nodes.specs.Grouping.{first_of}
use Rattle.grouped_nodes.proofs.groups.first_alike.Given as goal

abbrev pub invariant-loop-r : goal.invariant-loop-r
invariant-loop-r g l = (q : ℕ) → q < l.r → has_id l.nodes q ≡ true → first_of l.first q ≡ q → goal.F-post g l.alike q l.i false
