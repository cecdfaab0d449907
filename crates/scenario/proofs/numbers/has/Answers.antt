use Rattle.std.proofs.Common.{ℤ, sym, ap, ◌∙◌, refl, w64, to_z, of_z, to_z-of_z}
use Rattle.std.specs.List.{list_any}
use Rattle.std.specs.Ordering.{int_eq}
use Rattle.std.proofs.lemmas.List.{at_drop_all}
use Rattle.scenario.proofs.numbers.has.Goals as goal

pub loop-other-init : goal.loop-other-init
loop-other-init c = refl

pub bounds-numbers-other-index : goal.bounds-numbers-other-index
bounds-numbers-other-index c = c.loop-other-test.true

pub returns : goal.returns
returns c =
    sym (at_drop_all (list_any (λ z. int_eq z (to_z w64 (of_z w64 c.args.number)))) c.args.numbers.now c.loop-other.other-index c.loop-other-test.false)
    ∙ c.loop-other.invariant
    ∙ ap (λ (n : ℤ). list_any (λ z. int_eq z n) c.args.numbers.now) (to_z-of_z c.ranges.number)
