use Rattle.std.proofs.Common.{ℕ, ◌≡◌, ◌≢◌, ◌++◌, ◌∷◌, [], true, length, slice_index_or}
use Rattle.std.specs.Prelude.{All}
use Rattle.node_grid.specs.NodeSet.{has_id}
use Rattle.omh_paths.specs.declared.wrapped.Wrapped.TheVariants.{Fault}
use Rattle.settled_paths.specs.Passing.{or_passed}
use Rattle.settled_items.proofs.relayed.Relayed.lay_told.Given as goal

abbrev pub invariant-loop-i : goal.invariant-loop-i
invariant-loop-i g l = record {
  can : (goal.iterator-loop-i g).can_next l.i-iterator;
  ends : (goal.iterator-loop-i g).is_finite l.i-iterator;
  split : l.self.exchange.awake ≡ l.yielded ++ l.i-iterator;
  places : length l.told ≡ g.row.N;
  known : All (λ v. v ≢ Fault 255) l.told;
  told : (i : ℕ) → has_id l.yielded i ≡ true → slice_index_or l.told i (Fault 0) ≡ or_passed (g.T.Touched.says l.self.touched.now i (l.self.exchange.commander ∷ [])) l.self.own.now;
}
