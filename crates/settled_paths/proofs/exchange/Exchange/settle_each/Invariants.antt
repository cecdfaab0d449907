use Rattle.std.proofs.Common.{ℕ, ◌≡◌, ◌-◌, ◌++◌, ◌∷◌, [], Bool, List, true, false, length, get_or}
use Rattle.node_grid.specs.NodeSet.{has_id}
use Rattle.omh_paths.specs.declared.wrapped.Wrapped.{Wrapped}
use Rattle.omh_paths.specs.declared.wrapped.Wrapped.TheVariants.{Fault}
use Rattle.omh_paths.specs.Paths.{index_in}
use Rattle.omh.specs.Omh.{settled_at}
use Rattle.omh.specs.Flat.{AreSettled}
use Rattle.settled_paths.specs.Levels.{AreOwnTerms, ear_in}
use Rattle.settled_paths.proofs.exchange.Exchange.settle_each.Given as goal

abbrev pub invariant-loop-i : goal.invariant-loop-i
invariant-loop-i g l = record {
  can : (goal.iterator-loop-i g).can_next l.i-iterator;
  ends : (goal.iterator-loop-i g).is_finite l.i-iterator;
  split : l.nodes ≡ l.yielded ++ l.i-iterator;
  work : length l.work ≡ length l.initial.work;
  places : length l.all ≡ g.row.N;
  settled : (i : ℕ) → has_id l.yielded i ≡ true → (full : Bool) (h : List ℕ → Wrapped g.row.V.Denot) → AreOwnTerms (ear_in l.self.rounds l.self.members i full h) (index_in l.self.members l.self.commander) l.laid
      → AreSettled g.V.PartialEq.eq (ear_in l.self.rounds l.self.members i full h) (index_in l.self.members l.self.commander) (l.self.rounds - 1) l.longest
      → get_or l.all i (Fault 0) ≡ settled_at g.V.PartialEq.eq (ear_in l.self.rounds l.self.members i full h) (l.self.commander ∷ []);
  kept : (i : ℕ) → has_id l.nodes i ≡ false → get_or l.all i (Fault 0) ≡ get_or l.initial.all i (Fault 0);
}
