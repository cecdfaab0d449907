use Rattle.std.proofs.Common.{◌≡◌, ◌<◌, ◌≤◌, ℕ, length, get_or, if◌then◌else◌}
use Rattle.node_grid.specs.NodeSet.{has_id}
use Rattle.shared_states.proofs.places.put_at.Given as goal

abbrev pub invariant-loop-node : goal.invariant-loop-node
invariant-loop-node g l = record {
  wide : length l.places ≡ g.row.N;
  put : (i : ℕ) → i < l.node → get_or l.places i 0 ≡ (if has_id l.nodes i then l.place else get_or l.initial.places i 0);
  rest : (i : ℕ) → l.node ≤ i → get_or l.places i 0 ≡ get_or l.initial.places i 0;
}
