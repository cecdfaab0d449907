use Rattle.std.proofs.Common.{◌≡◌, ◌+◌, ◌<◌, ◌/◌, ◌%◌, ℕ, [], ◌∷◌, ◌++◌, refl, ◌∙◌, arith}
use Rattle.std.specs.Prelude.{codes, decimal}
use Rattle.std.proofs.lemmas.Fmt.{decimal_digit}
use Rattle.run_print.proofs.Digits.{two}
use Rattle.run_print.proofs.Joining.{then_three}
use Rattle.run_print.proofs.printer.Printer.front.Goals as goal

-- the front with a number of one digit
digit_front : (i letter : ℕ) → i < 10 → codes "node " ++ decimal i ++ codes " " ++ (letter ∷ []) ++ codes " " ≡ 110 ∷ 111 ∷ 100 ∷ 101 ∷ 32 ∷ (48 + i) ∷ 32 ∷ letter ∷ 32 ∷ []
digit_front i letter low = rw (decimal_digit i low) refl

pub returns-then-i-lt10 : goal.returns-then-i-lt10
returns-then-i-lt10 g c = rw (digit_front c.args.i c.args.letter c.if-i-lt10.true) c.text.ensures

pub returns-then-i-lt100 : goal.returns-then-i-lt100
returns-then-i-lt100 g c =
    let is : decimal c.args.i ≡ (48 + c.args.i / 10) ∷ (48 + c.args.i % 10) ∷ [] = two c.args.i (omega (arith, c.if-i-lt10.false)) c.if-i-lt100.true in
    rw is (rw (c.two_digits.ensures ∙ is) at c.text-then-i-lt100.ensures)

pub returns-else-i-lt100 : goal.returns-else-i-lt100
returns-else-i-lt100 g c = then_three (codes " ") (c.args.letter ∷ []) (codes " ") c.labelled.ensures c.text-else-i-lt100.ensures
