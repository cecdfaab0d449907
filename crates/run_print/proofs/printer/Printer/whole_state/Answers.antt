use Rattle.std.proofs.Common.{sym, subst, inl, inr, lit<}
use Rattle.run_text.specs.NodeText.{standing_text}
use Rattle.run_print.specs.Printing.{Prints}
use Rattle.run_print.proofs.Joining.{then}
use Rattle.run_print.proofs.printer.Printer.whole_state.Goals as goal

pub returns : goal.returns
returns g c =
    rw (sym c.agreed.view_is)
    (then (then (then
    (subst (λ a. Prints g.K.Sink.written g.K.Sink.faults c.args.self.now c.args.sink.now c.standing.new.self c.standing.new.sink (standing_text c.args.head.now.nodes a)) (sym c.agreed.view_is) c.standing.ensures)
    c.text.ensures) c.runs_among.ensures) c.left.ensures)

pub standing-requires : goal.standing-requires
standing-requires g c = (assumption, elim g.bound-2.eight_or_sixteen [ inl e ↦ rw e (lit< tt) | inr e ↦ rw e (lit< tt) ])
