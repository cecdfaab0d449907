use Rattle.std.proofs.Common.{◌≡◌, ◌<◌, ℕ, true, length}
use Rattle.node_grid.specs.NodeSet.{has_id}
use Rattle.protocol.specs.View.{Received, value_from}
use Rattle.data_slot.specs.Told.{value_told}
use Rattle.told_values.specs.Slot.{slot_of, own_of, Hears}
use Rattle.told_values.proofs.listener.Listener.told_by_each.Given as goal

abbrev pub invariant-loop-from : goal.invariant-loop-from
invariant-loop-from g l = record {
  wide : length l.told ≡ g.row.N;
  so_far : (x : Received) → Hears (slot_of g.D.Dues.dues l.self.slot.now) l.self.node x → (q c : ℕ) → q < l.from → has_id (g.D.Dues.dues l.self.slot.now.dues l.self.node) c ≡ true
      → value_told l.told q c ≡ value_from l.self.node (has_id l.self.slot.now.full l.self.node) (g.D.Dues.dues l.self.slot.now.dues l.self.node) (own_of (slot_of g.D.Dues.dues l.self.slot.now) l.self.node) x c q;
}
