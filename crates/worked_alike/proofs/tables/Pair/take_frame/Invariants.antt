use Rattle.std.proofs.Common.{◌≡◌}
use Rattle.worked_alike.proofs.tables.Pair.take_frame.Given as goal

abbrev pub invariant-loop-place : goal.invariant-loop-place
invariant-loop-place l = record {
  seat : l.self.seat ≡ l.initial.self.seat;
  relays : l.relays.seat ≡ l.initial.relays.seat;
}
