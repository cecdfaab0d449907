use Rattle.std.proofs.Common.{◌≡◌, ◌≤◌, ℕ, List, take, length, subst, ap, sym, ◌∙◌, arith, inl, inr}
use Rattle.std.proofs.lemmas.Bool.{eqb-false}
use Rattle.std.proofs.lemmas.List.{length-take}
use Rattle.run_text.specs.Text.{numbers_text}
use Rattle.run_print.specs.Printing.{Prints}
use Rattle.run_print.proofs.Zeros.{zeros_text}
use Rattle.run_print.proofs.printer.Printer.mostly_zeros.Goals as goal

pub returns-then-are_zero : goal.returns-then-are_zero
returns-then-are_zero g c =
    let shown = c.first-shown.result.now in
    let nodes : ℕ = c.args.nodes in
    let long = length-take nodes c.args.numbers.now in
    let same : length shown ≡ length (take nodes c.args.numbers.now) = ap (λ (xs : List ℕ). length xs) c.first-shown.ensures in
    let few : length shown ≤ 16 = elim g.bound-2.eight_or_sixteen [ inl e ↦ omega (arith, same, long, c.told-numbers, e) | inr e ↦ omega (arith, same, long, c.told-numbers, e) ] in
    subst (λ (text : List ℕ). Prints g.K.Sink.written g.K.Sink.faults c.args.self.now c.args.sink.now c.text.new.self c.text.new.sink text)
    (sym (ap numbers_text (sym c.first-shown.ensures ∙ c.are_zero.ensures c.if-are_zero.true) ∙ zeros_text (length shown) (omega (arith, eqb-false (length shown) 0 (sym c.is_empty.ensures ∙ c.if-not-is_empty.true))) few)) c.text.ensures
