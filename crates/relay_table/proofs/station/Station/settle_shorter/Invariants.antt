use Rattle.std.proofs.Common.{ℕ, ◌≡◌, ◌≤◌, ◌+◌, map, length, get_or}
use Rattle.omh_paths.specs.declared.wrapped.Wrapped.TheVariants.{Fault}
use Rattle.omh.specs.Omh.{Ear}
use Rattle.relay_terms.specs.Terms.{said}
use Rattle.relay_table.specs.Settling.{IsKeptBy, AreSettled}
use Rattle.relay_table.proofs.Settled.{AreSettledTo}
use Rattle.relay_table.proofs.station.Station.settle_shorter.Given as goal

abbrev pub invariant-loop-k : goal.invariant-loop-k
invariant-loop-k g l = record {
  settled : (x : Ear g.row.V.Denot) → IsKeptBy l.self (map said l.heard) x → AreSettled g.V.PartialEq.eq x l.self.others (l.len + 1) (map said l.initial.settled)
      → AreSettledTo g.V.PartialEq.eq x l.self.others l.len l.k (map said l.settled);
  rest : (i : ℕ) → l.k ≤ i → get_or (map said l.settled) i (Fault 0) ≡ get_or (map said l.initial.settled) i (Fault 0);
  long : length l.settled ≡ length l.initial.settled;
}
