use Rattle.std.proofs.Common.{arith, sym, ◌∙◌}
use Rattle.std.proofs.lemmas.Bool.Decides.{Decides-eqb}
use Rattle.std.proofs.lemmas.Slice.Eq.{slice_eq-Decides}
use Rattle.program_words.specs.Facts.{never}
use Rattle.top_call.proofs.Words.{two_words, two_words_first, first, then_both}
use Rattle.top_call.proofs.form.number_after.Goals as goal

pub returns-then-eq-clause-found : goal.returns-then-eq-clause-found
returns-then-eq-clause-found c =
    let text = c.as_str.ensures.value in
    let last = c.as_str-then-eq.ensures.value in
    let whole = two_words _ _ _ (omega (arith, c.if-words-ne2.false)) c.index-words-0.is c.index-words-1.is in
    let same = (slice_eq-Decides Decides-eqb _ _ _ c.eq.ensures).0 c.if-eq.true in
    then_both _ _ _ _ _ c.number_of.result (whole) (sym text ∙ same) last c.number_of.ensures.found

pub returns-clause-none : goal.returns-clause-none
returns-clause-none c = λ e n low q.
    let text = c.as_str.ensures.value in
    let whole = two_words_first _ _ (omega (arith, c.if-words-ne2.false)) c.index-words-0.is in
    never _ c.if-eq.false ((slice_eq-Decides Decides-eqb _ _ _ c.eq.ensures).1 (text ∙ first _ _ (sym whole.1 ∙ q)))
