use Rattle.std.proofs.Common.{ℕ, ◌≡◌, ◌++◌, true, slice_index_or}
use Rattle.node_grid.specs.NodeSet.{has_id}
use Rattle.omh_paths.specs.declared.wrapped.Wrapped.TheVariants.{Fault}
use Rattle.settled_items.proofs.values.are_alike.Given as goal

abbrev pub invariant-loop-k : goal.invariant-loop-k
invariant-loop-k g l = record {
  can : (goal.iterator-loop-k g).can_next l.k-iterator;
  ends : (goal.iterator-loop-k g).is_finite l.k-iterator;
  split : l.nodes ≡ l.yielded ++ l.k-iterator;
  same : (k : ℕ) → has_id l.yielded k ≡ true → slice_index_or l.values k (Fault 0) ≡ slice_index_or l.values l.first (Fault 0);
}
