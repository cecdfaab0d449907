use Rattle.std.proofs.Common.{◌≡◌, ◌&&◌, ◌==◌, get_or}
use Rattle.node_grid.specs.NodeSet.{ids_where_below, has_id}
use Rattle.shared_states.proofs.places.nodes_at.Given as goal

abbrev pub invariant-loop-node : goal.invariant-loop-node
invariant-loop-node g l = l.found ≡ ids_where_below (λ i. has_id l.nodes i && (get_or l.places i 0 == l.place)) g.row.N l.node
