use Rattle.std.proofs.Common.{◌≡◌, ◌+◌, not}
use Rattle.node_grid.specs.NodeSet.{ids_where_below}
use Rattle.fault_classes.specs.Change.{is_untouched}
use Rattle.fault_classes.specs.Plan.{each_in_slot}
use Rattle.told_values.proofs.slot.touched_senders.Given as goal

abbrev pub invariant-loop-from : goal.invariant-loop-from
invariant-loop-from g l = l.touched ≡ ids_where_below (λ j. not (each_in_slot l.plan is_untouched l.period j (l.config.m + 2))) g.row.N l.from
