use Rattle.run_print.proofs.Joining.{then}
use Rattle.std.proofs.lemmas.Fmt.{decimal_digit}
use Rattle.run_print.proofs.printer.Printer.number_behind.Goals as goal

pub returns-then-n-lt10 : goal.returns-then-n-lt10
returns-then-n-lt10 g c = rw (decimal_digit c.args.n c.if-n-lt10.true) c.text.ensures

pub returns-else-n-lt10 : goal.returns-else-n-lt10
returns-else-n-lt10 g c = then c.byte.ensures c.number.ensures
