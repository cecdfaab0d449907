use Rattle.std.proofs.Common.{pos, rules, sym, ◌∙◌, refl, w64, to_z-of_z}
use Rattle.std.specs.Prelude.{FitsSigned, slice_index_or}
use Rattle.std.specs.List.{list_all}
use Rattle.std.proofs.lemmas.List.{at_drop_all}
use Rattle.scenario.specs.Numbers.{is_below}
use Rattle.scenario.proofs.Turns.{all_go_on, all_end_here}
use Rattle.scenario.proofs.numbers.all_below.Goals as goal

pub loop-number-init : goal.loop-number-init
loop-number-init c = refl

pub bounds-numbers-number-index : goal.bounds-numbers-number-index
bounds-numbers-number-index c = c.loop-number-test.true

pub loop-number-preserved : goal.loop-number-preserved
loop-number-preserved c =
    let fits : FitsSigned w64 (slice_index_or c.args.numbers.now c.loop-number.number-index (pos 0)) = search rules in
    all_go_on (is_below c.args.bound) c.args.numbers.now c.loop-number.number-index (pos 0) _ _ c.loop-number-test.true (to_z-of_z fits) (sym c.is_below.ensures ∙ c.if-not-is_below.false) c.loop-number.invariant

pub returns-then-not-is_below : goal.returns-then-not-is_below
returns-then-not-is_below c =
    let fits : FitsSigned w64 (slice_index_or c.args.numbers.now c.loop-number.number-index (pos 0)) = search rules in
    all_end_here (is_below c.args.bound) c.args.numbers.now c.loop-number.number-index (pos 0) _ _ c.loop-number-test.true (to_z-of_z fits) (sym c.is_below.ensures ∙ c.if-not-is_below.true) c.loop-number.invariant

pub returns : goal.returns
returns c = sym (at_drop_all (list_all (is_below c.args.bound)) c.args.numbers.now c.loop-number.number-index c.loop-number-test.false) ∙ c.loop-number.invariant
