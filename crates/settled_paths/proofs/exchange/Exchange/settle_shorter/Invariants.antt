use Rattle.std.proofs.Common.{ℕ, ◌≡◌, ◌+◌, Bool, List, length}
use Rattle.omh_paths.specs.declared.wrapped.Wrapped.{Wrapped}
use Rattle.omh_paths.specs.Paths.{index_in}
use Rattle.omh.specs.Flat.{AreSettled}
use Rattle.omh.proofs.Folding.{IsHalfway}
use Rattle.settled_paths.specs.Levels.{AreOwnTerms, ear_in}
use Rattle.settled_paths.proofs.exchange.Exchange.settle_shorter.Given as goal

abbrev pub invariant-loop-k : goal.invariant-loop-k
invariant-loop-k g l = record {
  work : length l.work ≡ length l.initial.work;
  half : (full : Bool) (h : List ℕ → Wrapped g.row.V.Denot) → AreOwnTerms (ear_in l.self.rounds l.self.members l.i full h) (index_in l.self.members l.self.commander) l.laid
      → AreSettled g.V.PartialEq.eq (ear_in l.self.rounds l.self.members l.i full h) (index_in l.self.members l.self.commander) (l.relays + 1) l.initial.work
      → IsHalfway g.V.PartialEq.eq (ear_in l.self.rounds l.self.members l.i full h) (index_in l.self.members l.self.commander) l.relays l.work l.k;
}
