use Rattle.std.proofs.Common.{◌≡◌, ◌+◌, false, drop}
use Rattle.std.specs.Prelude.{All}
use Rattle.node_alone.specs.Log.{is_before, arrivals}
use Rattle.node_alone.specs.Stepping.{handed, from_slot, IsReady}
use Rattle.node_alone.proofs.delivering.deliver_slot.Given as goal

abbrev pub invariant-loop-place : goal.invariant-loop-place
invariant-loop-place g l = record {
  given : handed l.node (arrivals (drop l.place l.entries) l.period l.slot) ≡ handed l.initial.node (arrivals (drop l.next l.entries) l.period l.slot);
  ready : IsReady l.node l.entries;
  rest : from_slot l.period (l.slot + 1) (drop l.place l.entries) ≡ from_slot l.period (l.slot + 1) (drop l.next l.entries);
  later : All (λ e. is_before l.period l.slot e ≡ false) (drop l.place l.entries);
}
