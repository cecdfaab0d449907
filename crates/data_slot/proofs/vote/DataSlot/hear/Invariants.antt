use Rattle.std.proofs.Common.{◌≡◌, ◌<◌, ℕ, true, length}
use Rattle.node_grid.specs.NodeSet.{has_id}
use Rattle.protocol.specs.View.{value_from}
use Rattle.data_slot.specs.Values.{only_values}
use Rattle.data_slot.specs.Told.{value_told}
use Rattle.data_slot.proofs.vote.DataSlot.hear.Given as goal

abbrev pub invariant-loop-from : goal.invariant-loop-from
invariant-loop-from g l = record {
  wide : length l.told ≡ g.row.N;
  so_far : (q c : ℕ) → q < l.from → has_id l.self.due.now c ≡ true → value_told l.told q c ≡ value_from l.self.me l.self.full l.self.due.now l.self.own.now (only_values l.watch) c q;
}
