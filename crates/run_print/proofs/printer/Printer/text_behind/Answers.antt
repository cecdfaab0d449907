use Rattle.run_print.proofs.Joining.{then}
use Rattle.run_print.proofs.printer.Printer.text_behind.Goals as goal

pub text_first-requires : goal.text_first-requires
text_first-requires g c = (assumption, c.flush.ensures.empty)

pub returns : goal.returns
returns g c = then c.flush.ensures.prints c.text_first.ensures
