use Rattle.std.proofs.Common.{sym, subst}
use Rattle.run_text.specs.NodeText.{standing_text}
use Rattle.run_print.specs.Printing.{Prints}
use Rattle.run_print.proofs.Joining.{then}
use Rattle.run_print.proofs.printer.Printer.state.Goals as goal

pub returns : goal.returns
returns g c =
    rw (sym c.agreed.view_is)
    (then (then (then
    (subst (λ a. Prints g.K.Sink.written g.K.Sink.faults c.args.self.now c.args.sink.now c.standing_so.new.self c.standing_so.new.sink (standing_text c.args.common.now.nodes a)) (sym c.agreed.view_is) c.standing_so.ensures)
    c.text.ensures) c.runs.ensures) c.left.ensures)
