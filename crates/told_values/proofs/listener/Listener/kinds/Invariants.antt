use Rattle.std.proofs.Common.{◌≡◌, ◌≢◌, ◌<◌, ℕ, None, length, get_or}
use Rattle.error_reports.specs.Notes.{is_kind}
use Rattle.protocol.specs.Arrival.{is_bad}
use Rattle.protocol.specs.View.{Received}
use Rattle.told_values.specs.Slot.{slot_of, Hears}
use Rattle.told_values.proofs.listener.Listener.kinds.Given as goal

abbrev pub invariant-loop-j : goal.invariant-loop-j
invariant-loop-j g l = record {
  wide : length l.kinds ≡ g.row.N;
  so_far : (x : Received) → Hears (slot_of g.D.Dues.dues l.self.slot.now) l.self.node x → (j k : ℕ) → j < l.j → j ≢ l.self.node → is_kind (get_or l.kinds j None) k ≡ is_bad (x.values j) k;
}
