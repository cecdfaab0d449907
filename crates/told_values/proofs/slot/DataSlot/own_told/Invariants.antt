use Rattle.std.proofs.Common.{◌≡◌, ◌<◌, ℕ, true, length}
use Rattle.node_grid.specs.NodeSet.{has_id}
use Rattle.data_slot.specs.Told.{value_told}
use Rattle.told_values.specs.Slot.{slot_of, own_told}
use Rattle.told_values.proofs.slot.DataSlot.own_told.Given as goal

abbrev pub invariant-loop-node : goal.invariant-loop-node
invariant-loop-node g l = record {
  wide : length l.told ≡ g.row.N;
  so_far : (j c : ℕ) → j < l.node → (has_id l.self.full j ≡ true → has_id (g.D.Dues.dues l.self.dues j) c ≡ true) → value_told l.told j c ≡ own_told (slot_of g.D.Dues.dues l.self) j c;
}
