use Rattle.std.proofs.Common.{ap, List, ℕ, [], ◌∷◌, sym, ◌∙◌}
use Rattle.std.proofs.lemmas.Bool.Decides.{Decides-eqb, Decides-like}
use Rattle.std.proofs.lemmas.Slice.Eq.{slice_eq-Decides}
use Rattle.top_call.proofs.Words.{one_word, first}
use Rattle.top_call.proofs.form.is_one.Goals as goal

pub returns-then-words-eq1 : goal.returns-then-words-eq1
returns-then-words-eq1 c =
    let text = c.as_str.ensures.value in
    let whole = one_word _ _ c.if-words-eq1.true c.index-words-0.is in
    Decides-like _ (λ e. whole ∙ ap (λ (b : List ℕ). b ∷ []) (sym text ∙ e)) (λ q. text ∙ first _ _ (sym whole ∙ q)) (slice_eq-Decides Decides-eqb _ _ _ c.eq.ensures)
