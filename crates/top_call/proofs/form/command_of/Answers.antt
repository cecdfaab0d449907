use Rattle.std.proofs.Common.{◌≡◌, ℕ, arith, sym, ◌∙◌}
use Rattle.std.proofs.lemmas.Fmt.{decimal_injective}
use Rattle.top_call.proofs.Words.{uncalled, second}
use Rattle.top_call.proofs.form.command_of.Goals as goal

pub returns-in_default-number_after-2-clause-none : goal.returns-in_default-number_after-2-clause-none
returns-in_default-number_after-2-clause-none c = λ e command calls.
    uncalled _ (λ f h. c.form_of.ensures.none c.in_default.is f h) (λ n low h. c.number_after.ensures.none c.in_default-number_after.is n low h)
    (λ n low h.
    let id : ℕ = c.in-Some-number_after-2.id in
    let same : id ≡ n = decimal_injective id n c.in-Some-number_after-2.ensures.small (omega (arith, low)) (second _ _ _ _ (sym c.in-Some-number_after-2.ensures.found ∙ h)) in
    absurd (omega (arith, low, same, c.if-id-le15.false))) command calls
