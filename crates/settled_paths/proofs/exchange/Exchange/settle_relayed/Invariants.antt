use Rattle.std.proofs.Common.{ℕ, ◌≡◌, ◌++◌, ◌∷◌, [], true, false, length, get_or}
use Rattle.node_grid.specs.NodeSet.{has_id}
use Rattle.omh_paths.specs.declared.wrapped.Wrapped.{Wrapped}
use Rattle.omh_paths.specs.declared.wrapped.Wrapped.TheVariants.{Fault}
use Rattle.omh_paths.specs.Paths.{index_in}
use Rattle.omh.specs.Omh.{settled}
use Rattle.settled_paths.specs.Passing.{passing_world}
use Rattle.settled_paths.specs.Levels.{AreLaid}
use Rattle.settled_paths.proofs.exchange.Exchange.settle_relayed.Given as goal

abbrev pub invariant-loop-first : goal.invariant-loop-first
invariant-loop-first g l = record {
  can : (goal.iterator-loop-first g).can_next l.first-iterator;
  ends : (goal.iterator-loop-first g).is_finite l.first-iterator;
  split : l.nodes ≡ l.yielded ++ l.first-iterator;
  longest : length l.longest ≡ length l.initial.longest;
  work : length l.work ≡ length l.initial.work;
  places : length l.all ≡ g.row.N;
  reached : (i : ℕ) → has_id l.yielded i ≡ true → has_id l.done i ≡ true;
  settled : (own : Wrapped g.row.V.Denot) → AreLaid l.self.members l.self.full own (g.T.Touched.says l.touched) (index_in l.self.members l.self.commander) l.self.rounds l.laid
      → (i : ℕ) → has_id l.done i ≡ true → get_or l.all i (Fault 0) ≡ settled g.V.PartialEq.eq (passing_world l.self.rounds l.self.members l.self.full own (g.T.Touched.says l.touched)) i (l.self.commander ∷ []);
  kept : (i : ℕ) → has_id l.nodes i ≡ false → get_or l.all i (Fault 0) ≡ get_or l.initial.all i (Fault 0);
}
