use Rattle.std.proofs.Common.{sym, ap, ◌∙◌}
use Rattle.std.specs.Prelude.{decimal}
use Rattle.std.proofs.lemmas.Bool.Decides.{Decides-eqb}
use Rattle.std.proofs.lemmas.Slice.Eq.{slice_eq-Decides}
use Rattle.program_words.specs.Facts.{read_back, not_both, same_number, never}
use Rattle.program_words.proofs.number_of.Goals as goal

pub returns-in_default-clause-none : goal.returns-in_default-clause-none
returns-in_default-clause-none c = λ e n low same. not_both _ n _ (read_back _ n _ low same c.parse.ensures.value.0) c.in_default.is

pub returns-clause-none : goal.returns-clause-none
returns-clause-none c = λ e n low same.
    let read = read_back _ n _ low same c.parse.ensures.value.0 in
    let number = same_number _ _ n c.in-Ok.is read in
    never _ c.if-eq.false ((slice_eq-Decides Decides-eqb _ _ _ c.eq.ensures).1 (c.format.ensures.text ∙ ap decimal number ∙ sym same))
