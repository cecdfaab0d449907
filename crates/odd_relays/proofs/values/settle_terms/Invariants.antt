use Rattle.std.proofs.Common.{ℕ, ◌≡◌, ◌+◌, ◌*◌, ◌++◌, true, length, take, drop, slice_index_or}
use Rattle.node_grid.specs.NodeSet.{has_id}
use Rattle.omh_paths.specs.declared.wrapped.Wrapped.TheVariants.{Fault}
use Rattle.omh_paths.specs.Wrapped.{unwrapped}
use Rattle.omh_paths.specs.Majority.{majority}
use Rattle.odd_relays.specs.Work.{KeepsBelow}
use Rattle.odd_relays.proofs.values.settle_terms.Given as goal

abbrev pub invariant-loop-i : goal.invariant-loop-i
invariant-loop-i g l = record {
  can : (goal.iterator-loop-i g).can_next l.i-iterator;
  ends : (goal.iterator-loop-i g).is_finite l.i-iterator;
  split : l.nodes ≡ l.yielded ++ l.i-iterator;
  long : length l.work ≡ length l.initial.work;
  rows : drop (l.from + 16) l.work ≡ drop (l.from + 16) l.initial.work;
  settled : (i : ℕ) → has_id l.yielded i ≡ true → slice_index_or l.work (l.from + i) (Fault 0) ≡ unwrapped (majority g.V.PartialEq.eq (take l.count (drop (l.from + 16 + 16 * i) l.initial.work)));
  kept : KeepsBelow l.from l.initial.work l.work;
}
