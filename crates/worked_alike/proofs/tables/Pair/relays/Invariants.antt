use Rattle.std.proofs.Common.{◌≡◌}
use Rattle.worked_alike.proofs.tables.Pair.relays.Given as goal

abbrev pub invariant-loop-sender : goal.invariant-loop-sender
invariant-loop-sender l = record {
  seat : l.self.seat ≡ l.initial.self.seat;
  relays : l.relays.seat ≡ l.initial.self.seat;
}
