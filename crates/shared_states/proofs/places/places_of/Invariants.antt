use Rattle.std.proofs.Common.{◌≡◌, ◌<◌, ◌≤◌, ℕ, true, length, get_or}
use Rattle.node_grid.specs.NodeSet.{has_id, ids_below, IsIdSet}
use Rattle.node_grid.specs.Count.{count}
use Rattle.shared_states.proofs.places.places_of.Given as goal

abbrev pub invariant-loop-node : goal.invariant-loop-node
invariant-loop-node g l = record {
  ids : IsIdSet g.row.N l.found;
  few : length l.found ≤ count (has_id l.nodes) (ids_below l.node);
  there : (i : ℕ) → i < l.node → has_id l.nodes i ≡ true → has_id l.found (get_or l.places i 0) ≡ true;
}
