use Rattle.std.proofs.Common.{sym}
use Rattle.run_print.proofs.Digits.{two}
use Rattle.run_print.proofs.printer.two_digits.Goals as goal

pub returns : goal.returns
returns c = sym (two c.args.n c.requires.from c.requires.below)
