use Rattle.std.proofs.Common.{◌≡◌, ℤ, pos, Bool, true, false, List, rules, sym, ◌∙◌, refl, w64, to_z, of_z, to_z-of_z}
use Rattle.std.specs.Prelude.{FitsSigned, slice_index_or}
use Rattle.std.specs.List.{list_all}
use Rattle.std.proofs.lemmas.List.{at_drop_all}
use Rattle.scenario.specs.Numbers.{is_between}
use Rattle.scenario.proofs.Turns.{all_go_on, all_end_here}
use Rattle.scenario.proofs.numbers.all_within.Goals as goal

-- what holds of the bounds as they are kept holds of the bounds
bounds_kept : (b : Bool) (xs : List ℤ) (low high low_kept high_kept : ℤ) → low_kept ≡ low → high_kept ≡ high → b ≡ list_all (is_between low_kept high_kept) xs → b ≡ list_all (is_between low high) xs
bounds_kept b xs low high low_kept high_kept e f h = rw (sym e, sym f) h

pub loop-number-init : goal.loop-number-init
loop-number-init c = refl

pub bounds-numbers-number-index : goal.bounds-numbers-number-index
bounds-numbers-number-index c = c.loop-number-test.true

pub loop-number-preserved : goal.loop-number-preserved
loop-number-preserved c =
    let fits : FitsSigned w64 (slice_index_or c.args.numbers.now c.loop-number.number-index (pos 0)) = search rules in
    all_go_on (is_between (to_z w64 (of_z w64 c.args.low)) (to_z w64 (of_z w64 c.args.high))) c.args.numbers.now c.loop-number.number-index (pos 0) _ _ c.loop-number-test.true (to_z-of_z fits)
    (sym c.is_within.ensures ∙ c.if-not-is_within.false) c.loop-number.invariant

pub returns-then-not-is_within : goal.returns-then-not-is_within
returns-then-not-is_within c =
    let fits : FitsSigned w64 (slice_index_or c.args.numbers.now c.loop-number.number-index (pos 0)) = search rules in
    bounds_kept false c.args.numbers.now c.args.low c.args.high _ _ (to_z-of_z c.ranges.low) (to_z-of_z c.ranges.high)
    (all_end_here (is_between (to_z w64 (of_z w64 c.args.low)) (to_z w64 (of_z w64 c.args.high))) c.args.numbers.now c.loop-number.number-index (pos 0) _ _ c.loop-number-test.true (to_z-of_z fits)
    (sym c.is_within.ensures ∙ c.if-not-is_within.true) c.loop-number.invariant)

pub returns : goal.returns
returns c =
    bounds_kept true c.args.numbers.now c.args.low c.args.high _ _ (to_z-of_z c.ranges.low) (to_z-of_z c.ranges.high)
    (sym (at_drop_all (list_all (is_between (to_z w64 (of_z w64 c.args.low)) (to_z w64 (of_z w64 c.args.high)))) c.args.numbers.now c.loop-number.number-index c.loop-number-test.false) ∙ c.loop-number.invariant)
