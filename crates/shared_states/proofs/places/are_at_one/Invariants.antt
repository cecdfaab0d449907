use Rattle.std.proofs.Common.{◌≡◌, ◌<◌, ℕ, true, get_or}
use Rattle.node_grid.specs.NodeSet.{has_id}
use Rattle.shared_states.proofs.places.are_at_one.Given as goal

abbrev pub invariant-loop-node : goal.invariant-loop-node
invariant-loop-node g l = (i : ℕ) → i < l.node → has_id l.nodes i ≡ true → get_or l.places i 0 ≡ get_or l.places l.first 0
