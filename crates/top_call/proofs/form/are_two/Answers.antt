use Rattle.std.proofs.Common.{ap₂, arith, List, ℕ, [], ◌∷◌, sym, ◌∙◌}
use Rattle.std.proofs.lemmas.Bool.Decides.{Decides-eqb, Decides-like}
use Rattle.std.proofs.lemmas.Slice.Eq.{slice_eq-Decides}
use Rattle.program_words.specs.Facts.{never}
use Rattle.top_call.proofs.Words.{two_words, two_words_first, first, second}
use Rattle.top_call.proofs.form.are_two.Goals as goal

pub returns-then-eq : goal.returns-then-eq
returns-then-eq c =
    let text = c.as_str.ensures.value in
    let last = c.as_str-then-eq.ensures.value in
    let whole = two_words _ _ _ (omega (arith, c.if-words-ne2.false)) c.index-words-0.is c.index-words-1.is in
    let same = (slice_eq-Decides Decides-eqb _ _ _ c.eq.ensures).0 c.if-eq.true in
    Decides-like _ (λ e. whole ∙ ap₂ (λ (a b : List ℕ). a ∷ b ∷ []) (sym text ∙ same) (sym last ∙ e)) (λ q. last ∙ second _ _ _ _ (sym whole ∙ q)) (slice_eq-Decides Decides-eqb _ _ _ c.eq-then-eq.ensures)

pub returns-else-eq : goal.returns-else-eq
returns-else-eq c =
    let text = c.as_str.ensures.value in
    let whole = two_words_first _ _ (omega (arith, c.if-words-ne2.false)) c.index-words-0.is in
    let decides = slice_eq-Decides Decides-eqb _ _ _ c.eq.ensures in
    (λ e. absurd (never _ c.if-eq.false e), λ q. absurd (never _ c.if-eq.false (decides.1 (text ∙ first _ _ (sym whole.1 ∙ q)))))
