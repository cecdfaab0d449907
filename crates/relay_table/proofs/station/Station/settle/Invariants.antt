use Rattle.std.proofs.Common.{◌≡◌, ◌+◌, ◌-◌, map, length}
use Rattle.omh.specs.Omh.{Ear}
use Rattle.relay_terms.specs.Terms.{said, term_in}
use Rattle.relay_walk.specs.Walking.{entries_of}
use Rattle.relay_table.specs.Settling.{IsKeptBy, IsToldLast, AreSettled}
use Rattle.relay_table.proofs.station.Station.settle.Given as goal

abbrev pub invariant-loop-done : goal.invariant-loop-done
invariant-loop-done g l = record {
  settled : (x : Ear g.row.V.Denot) → IsKeptBy l.self (map said l.heard) x → IsToldLast l.self (entries_of (term_in g.V.Item.of_bytes) l.fn.frames) x
      → AreSettled g.V.PartialEq.eq x l.self.others (l.self.rounds + 1 - l.done) (map said l.settled);
  long : length l.settled ≡ length l.fn.settled;
}
