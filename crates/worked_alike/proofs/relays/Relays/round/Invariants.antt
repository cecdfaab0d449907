use Rattle.std.proofs.Common.{◌≡◌}
use Rattle.worked_alike.proofs.Rounds.{AreTaken}
use Rattle.worked_alike.proofs.relays.Relays.round.Given as goal

abbrev pub invariant-loop-sender : goal.invariant-loop-sender
invariant-loop-sender l = record {
  taken : AreTaken l.self.came l.size l.round;
  room : l.round.room.now ≡ l.self.room.items;
  width : l.round.width ≡ 2;
  size : l.round.size ≡ l.size;
}
