use Rattle.std.proofs.Common.{◌≡◌, ◌<◌, ◌^◌, ◌∷◌, [], arith, sym, ◌∙◌}
use Rattle.std.specs.Prelude.{decimal, string_bytes}
use Rattle.std.proofs.lemmas.Fmt.{decimal_injective}
use Rattle.controller.specs.Words.{texts}
use Rattle.controller.proofs.Calling.{one_word, only}
use Rattle.controller.proofs.words.node_of.Goals as goal

pub returns-then-number-gt-LAST_NODE-clause-none : goal.returns-then-number-gt-LAST_NODE-clause-none
returns-then-number-gt-LAST_NODE-clause-none c = λ e id calls.
    let whole : texts c.args.words.now ≡ string_bytes c.index-words-0.result ∷ [] = one_word c.args.words.now c.index-words-0.result (omega (arith, c.if-words-ne1.false)) c.index-words-0.is in
    let same : decimal id ≡ decimal c.in-Some.number = only (decimal id) (string_bytes c.index-words-0.result) (sym calls.1 ∙ whole) ∙ (sym c.as_str.ensures.value ∙ c.in-Some.ensures.found) in
    let small = calls.0 in
    let low : id < 2 ^ 64 = omega (arith, small) in
    let is = decimal_injective id c.in-Some.number low c.in-Some.ensures.small same in
    absurd (omega (arith, is, small, c.if-number-gt-LAST_NODE.true))
