use Rattle.std.proofs.Common.{subst}
use Rattle.run_text.specs.ClockText.{clock_text}
use Rattle.run_print.specs.Printing.{Prints}
use Rattle.run_print.proofs.Joining.{nothing}
use Rattle.run_print.proofs.printer.Printer.clock.Goals as goal

pub returns-in-Some : goal.returns-in-Some
returns-in-Some g c = subst (λ t. Prints g.K.Sink.written g.K.Sink.faults c.args.self.now c.args.sink.now c.clock_line.new.self c.clock_line.new.sink (clock_text t t.clock)) c.shown.view_is (rw c.in-Some.is c.clock_line.ensures)

pub returns-in_default : goal.returns-in_default
returns-in_default g c = subst (λ t. Prints g.K.Sink.written g.K.Sink.faults c.args.self.now c.args.sink.now c.args.self.now c.args.sink.now (clock_text t t.clock)) c.shown.view_is (rw c.in_default.is (nothing _ _ _ _))
