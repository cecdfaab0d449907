use Rattle.std.proofs.Common.{◌≡◌, map, length}
use Rattle.omh.specs.Omh.{Ear}
use Rattle.relay_terms.specs.Terms.{said, term_in}
use Rattle.relay_walk.specs.Walking.{entries_of}
use Rattle.relay_table.specs.Settling.{IsKeptBy, IsToldLast}
use Rattle.relay_table.proofs.Settled.{IsBehind, AreSettledTo}
use Rattle.relay_table.proofs.station.Station.settle_longest.Given as goal

abbrev pub invariant-loop-k : goal.invariant-loop-k
invariant-loop-k g l = record {
  behind : IsBehind (term_in g.V.Item.of_bytes) l.self.members l.self.others l.self.me l.self.rounds l.initial.frames l.k l.at l.frames;
  settled : (x : Ear g.row.V.Denot) → IsKeptBy l.self (map said l.heard) x → IsToldLast l.self (entries_of (term_in g.V.Item.of_bytes) l.initial.frames) x
      → AreSettledTo g.V.PartialEq.eq x l.self.others l.self.rounds l.at (map said l.settled);
  long : length l.settled ≡ length l.initial.settled;
}
