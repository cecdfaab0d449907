use Rattle.std.proofs.Common.{ℕ, ◌≡◌, ◌-◌, Bool, List, length}
use Rattle.omh_paths.specs.declared.wrapped.Wrapped.{Wrapped}
use Rattle.omh_paths.specs.Paths.{index_in}
use Rattle.omh.specs.Flat.{AreSettled}
use Rattle.settled_paths.specs.Levels.{AreOwnTerms, ear_in}
use Rattle.settled_paths.proofs.exchange.Exchange.settle_from.Given as goal

abbrev pub invariant-loop-done : goal.invariant-loop-done
invariant-loop-done g l = record {
  work : length l.work ≡ length l.initial.work;
  settled : (full : Bool) (h : List ℕ → Wrapped g.row.V.Denot) → AreOwnTerms (ear_in l.self.rounds l.self.members l.i full h) (index_in l.self.members l.self.commander) l.laid
      → AreSettled g.V.PartialEq.eq (ear_in l.self.rounds l.self.members l.i full h) (index_in l.self.members l.self.commander) (l.self.rounds - 1) l.longest
      → AreSettled g.V.PartialEq.eq (ear_in l.self.rounds l.self.members l.i full h) (index_in l.self.members l.self.commander) (l.last - l.done) l.work;
}
