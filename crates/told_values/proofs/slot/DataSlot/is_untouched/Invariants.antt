use Rattle.std.proofs.Common.{◌≡◌, ℕ, ◌<◌, ◌++◌, true, ◌||◌}
use Rattle.std.specs.Prelude.{◌==◌}
use Rattle.node_grid.specs.NodeSet.{has_id}
use Rattle.fault_classes.specs.Change.{is_untouched}
use Rattle.told_values.specs.Slot.{slot_of, change_to}
use Rattle.told_values.proofs.slot.DataSlot.is_untouched.Given as goal

abbrev pub invariant-loop-j : goal.invariant-loop-j
invariant-loop-j g l = record {
  can : (goal.iterator-loop-j g).can_next l.j-iterator;
  ends : (goal.iterator-loop-j g).is_finite l.j-iterator;
  split : l.self.touched ≡ l.yielded ++ l.j-iterator;
  untouched : (k : ℕ) → has_id l.yielded k ≡ true → k < l.self.config.nodes → (k == l.i || is_untouched (change_to (slot_of g.D.Dues.dues l.self) k l.i)) ≡ true;
}
