use Rattle.std.proofs.Common.{ℕ, ◌≡◌, ◌++◌, ◌∷◌, [], true, false, length, get_or}
use Rattle.node_grid.specs.NodeSet.{has_id, without_id}
use Rattle.omh_paths.specs.declared.wrapped.Wrapped.TheVariants.{Fault}
use Rattle.omh.specs.Omh.{settled}
use Rattle.settled_paths.specs.Passing.{passing_world}
use Rattle.settled_paths.proofs.exchange.Exchange.settle_heard.Given as goal

abbrev pub invariant-loop-i : goal.invariant-loop-i
invariant-loop-i g l = record {
  can : (goal.iterator-loop-i g).can_next l.i-iterator;
  ends : (goal.iterator-loop-i g).is_finite l.i-iterator;
  split : without_id l.self.awake l.self.commander ≡ l.yielded ++ l.i-iterator;
  places : length l.all ≡ g.row.N;
  settled : (i : ℕ) → has_id l.yielded i ≡ true → get_or l.all i (Fault 0) ≡ settled g.V.PartialEq.eq (passing_world l.self.rounds l.self.members l.self.full l.own (g.T.Touched.says l.touched)) i (l.self.commander ∷ []);
  kept : (i : ℕ) → has_id (without_id l.self.awake l.self.commander) i ≡ false → get_or l.all i (Fault 0) ≡ get_or l.initial.all i (Fault 0);
}
