use Rattle.std.proofs.Common.{◌≡◌, ◌+◌, ◌/◌, ◌%◌, [], ◌∷◌, ◌∙◌, arith}
use Rattle.std.specs.Prelude.{decimal}
use Rattle.std.proofs.lemmas.Fmt.{decimal_digit}
use Rattle.run_print.proofs.Digits.{two}
use Rattle.run_print.proofs.Joining.{then}
use Rattle.run_print.proofs.printer.Printer.next_front.Goals as goal

pub returns-then-n-lt10 : goal.returns-then-n-lt10
returns-then-n-lt10 g c = rw (decimal_digit c.args.n c.if-n-lt10.true) c.text.ensures

pub returns-then-n-lt100 : goal.returns-then-n-lt100
returns-then-n-lt100 g c =
    let is : decimal c.args.n ≡ (48 + c.args.n / 10) ∷ (48 + c.args.n % 10) ∷ [] = two c.args.n (omega (arith, c.if-n-lt10.false)) c.if-n-lt100.true in
    rw is (rw (c.two_digits.ensures ∙ is) at c.text-then-n-lt100.ensures)

pub returns-else-n-lt100 : goal.returns-else-n-lt100
returns-else-n-lt100 g c = then c.number_behind.ensures c.byte.ensures
