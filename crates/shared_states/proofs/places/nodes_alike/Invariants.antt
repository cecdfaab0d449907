use Rattle.std.proofs.Common.{◌≡◌, ◌<◌, ◌≤◌, ℕ, false}
use Rattle.std.specs.Prelude.{◌↔◌, IsTrue}
use Rattle.node_grid.specs.NodeSet.{has_id}
use Rattle.shared_states.specs.Places.{IsAlike}
use Rattle.shared_states.proofs.places.nodes_alike.Given as goal

abbrev pub invariant-loop-node : goal.invariant-loop-node
invariant-loop-node g l = record {
  alike_are : (i : ℕ) → i < l.node → IsTrue (has_id l.alike i) ↔ IsAlike l.states l.nodes l.places l.place i;
  rest : (i : ℕ) → l.node ≤ i → has_id l.alike i ≡ false;
}
