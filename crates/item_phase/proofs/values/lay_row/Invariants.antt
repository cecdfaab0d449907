use Rattle.std.proofs.Common.{ℕ, ◌≡◌, ◌<◌, ◌≤◌, ◌+◌, ◌++◌, ◌⊎◌, true, length, slice_index_or}
use Rattle.node_grid.specs.NodeSet.{has_id}
use Rattle.omh_paths.specs.declared.wrapped.Wrapped.TheVariants.{Fault}
use Rattle.item_phase.proofs.values.lay_row.Given as goal

abbrev pub invariant-loop-i : goal.invariant-loop-i
invariant-loop-i g l = record {
  can : (goal.iterator-loop-i g).can_next l.i-iterator;
  ends : (goal.iterator-loop-i g).is_finite l.i-iterator;
  split : l.nodes ≡ l.yielded ++ l.i-iterator;
  long : length l.values ≡ length l.initial.values;
  laid : (i : ℕ) → has_id l.yielded i ≡ true → slice_index_or l.values (l.from + i) (Fault 0) ≡ slice_index_or l.row i (Fault 0);
  kept : (k : ℕ) → (k < l.from) ⊎ (l.from + g.row.N ≤ k) → slice_index_or l.values k (Fault 0) ≡ slice_index_or l.initial.values k (Fault 0);
}
