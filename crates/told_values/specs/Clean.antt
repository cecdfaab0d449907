-- A lemma for callers: no line touches a frame of a clean sender in any slot. So `touched` may be all that aren't clean.
use Rattle.std.proofs.Common.{◌≡◌, ℕ, ◌<◌, true, arith}
use Rattle.node_grid.specs.NodeSet.{ids_below}
use Rattle.node_grid.specs.NodeSetLaws.{has-range}
use Rattle.node_grid.specs.ListLaws.{all_at}
use Rattle.slot_plan.specs.Slots.{slot_count}
use Rattle.fault_classes.specs.Change.{is_untouched}
use Rattle.fault_classes.specs.Plan.{Plan, each_in_slot, is_clean}

pub clean_in : (plan : Plan) (p slot j : ℕ) → slot < slot_count plan.rounds → is_clean plan p j ≡ true → each_in_slot plan is_untouched p j slot ≡ true
clean_in plan p slot j low clean =
    all_at (each_in_slot plan is_untouched p j) (ids_below (slot_count plan.rounds)) slot clean (has-range 0 (slot_count plan.rounds) slot (omega arith) (omega (arith, low)))
