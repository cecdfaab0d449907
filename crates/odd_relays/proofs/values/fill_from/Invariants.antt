use Rattle.std.proofs.Common.{ℕ, ◌≡◌, ◌+◌, ◌++◌, true, length, slice_index_or}
use Rattle.node_grid.specs.NodeSet.{has_id}
use Rattle.omh_paths.specs.declared.wrapped.Wrapped.TheVariants.{Fault}
use Rattle.odd_relays.specs.Work.{KeepsBelow}
use Rattle.odd_relays.proofs.values.fill_from.Given as goal

abbrev pub invariant-loop-i : goal.invariant-loop-i
invariant-loop-i g l = record {
  can : (goal.iterator-loop-i g).can_next l.i-iterator;
  ends : (goal.iterator-loop-i g).is_finite l.i-iterator;
  split : l.nodes ≡ l.yielded ++ l.i-iterator;
  long : length l.work ≡ length l.initial.work;
  laid : (i : ℕ) → has_id l.yielded i ≡ true → slice_index_or l.work (l.from + i) (Fault 0) ≡ l.value;
  kept : KeepsBelow l.from l.initial.work l.work;
}
