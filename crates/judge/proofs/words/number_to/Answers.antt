use Rattle.std.proofs.Common.{◌<◌, ◌^◌, arith, sym, ◌∙◌}
use Rattle.std.proofs.lemmas.Fmt.{decimal_injective}
use Rattle.judge.proofs.words.number_to.Goals as goal

pub returns-then-number-most-clause-none : goal.returns-then-number-most-clause-none
returns-then-number-most-clause-none c = λ e n few same.
    let low : n < 2 ^ 64 = omega (arith, few, c.if-number-most.true, c.in-Some.ensures.small) in
    let is = decimal_injective n c.in-Some.number low c.in-Some.ensures.small (sym same ∙ c.in-Some.ensures.found) in
    absurd (omega (arith, is, few, c.if-number-most.true))
