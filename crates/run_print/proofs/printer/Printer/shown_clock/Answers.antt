use Rattle.run_print.proofs.Joining.{nothing}
use Rattle.run_print.proofs.printer.Printer.shown_clock.Goals as goal

pub returns-in-Some : goal.returns-in-Some
returns-in-Some g c = rw c.in-Some.is c.clock_line.ensures

pub returns-in_default : goal.returns-in_default
returns-in_default g c = rw c.in_default.is (nothing _ _ _ _)
