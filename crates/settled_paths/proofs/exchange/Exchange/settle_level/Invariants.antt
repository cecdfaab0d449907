use Rattle.std.proofs.Common.{ℕ, ◌≡◌, ◌<◌, ◌-◌, Bool, List, length}
use Rattle.omh_paths.specs.declared.wrapped.Wrapped.{Wrapped}
use Rattle.omh_paths.specs.Paths.{index_in}
use Rattle.omh.specs.Flat.{SettledAt}
use Rattle.settled_paths.specs.Levels.{AreLastTerms, ear_in}
use Rattle.settled_paths.proofs.exchange.Exchange.settle_level.Given as goal

abbrev pub invariant-loop-k : goal.invariant-loop-k
invariant-loop-k g l = record {
  longest : length l.longest ≡ length l.initial.longest;
  terms : length l.terms ≡ length l.initial.terms;
  done : (me : ℕ) (full : Bool) (h : List ℕ → Wrapped g.row.V.Denot) → AreLastTerms g.V.PartialEq.eq (ear_in l.self.rounds l.self.members me full h) (index_in l.self.members l.self.commander) l.i (g.T.Touched.says l.touched) (l.self.rounds - 1) l.laid
      → (k : ℕ) → k < l.k → SettledAt g.V.PartialEq.eq (ear_in l.self.rounds l.self.members me full h) (index_in l.self.members l.self.commander) (l.self.rounds - 1) l.longest k;
}
