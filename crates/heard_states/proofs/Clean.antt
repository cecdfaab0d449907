-- Of a sender that is clean in the period no line touches a frame of the sync slot.
use Rattle.std.proofs.Common.{ℕ, ◌≡◌, ◌≢◌, ◌<◌, true, ◌||◌, ◌==◌, None, sym, ap, ◌∙◌, arith, ne_eqb}
use Rattle.slot_plan.specs.Slots.{slot_count}
use Rattle.fault_classes.specs.Change.{is_untouched}
use Rattle.fault_classes.specs.ChangeLaws.{untouched_is}
use Rattle.fault_classes.specs.Line.{effect_at}
use Rattle.fault_classes.specs.Plan.{Plan, each_in_slot, is_clean}
use Rattle.agreed_state.specs.Ranges.{all_below_at}

pub clean_slot : (plan : Plan) (p j i : ℕ) → i < plan.nodes → is_clean plan p j ≡ true → i ≢ j → effect_at plan.lines p 0 j i ≡ None
clean_slot plan p j i low clean other =
    let slot = all_below_at (each_in_slot plan is_untouched p j) (slot_count plan.rounds) 0 clean (omega arith) in
    let frame = all_below_at (λ k. k == j || is_untouched (effect_at plan.lines p 0 j k)) plan.nodes i slot low in
    untouched_is (effect_at plan.lines p 0 j i) (sym (ap (λ b. b || is_untouched (effect_at plan.lines p 0 j i)) (ne_eqb i j other)) ∙ frame)
