use Rattle.std.proofs.Common.{◌≡◌, ◌<◌, ◌==◌, ℕ, not, [], length, get_or}
use Rattle.node_grid.specs.NodeSet.{ids_where}
use Rattle.heard_states.proofs.slot.SyncSlot.others.Given as goal

abbrev pub invariant-loop-node : goal.invariant-loop-node
invariant-loop-node g l = record {
  wide : length l.others ≡ g.row.N;
  so_far : (i : ℕ) → i < l.node → get_or l.others i [] ≡ ids_where (λ j. not (j == i)) l.self.config.now.nodes;
}
