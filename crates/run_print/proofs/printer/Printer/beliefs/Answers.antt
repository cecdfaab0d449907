use Rattle.std.proofs.Common.{subst, sym, inl, inr, lit<}
use Rattle.run_print.specs.Printing.{Prints}
use Rattle.run_text.specs.NodeText.{beliefs_text, settled_text}
use Rattle.run_print.proofs.Joining.{then}
use Rattle.run_print.proofs.printer.Printer.beliefs.Goals as goal

pub returns-in-Some : goal.returns-in-Some
returns-in-Some g c =
    subst (λ r. Prints g.K.Sink.written g.K.Sink.faults c.args.self.now c.args.sink.now c.settled_so.new.self c.settled_so.new.sink (beliefs_text c.args.common.now.nodes c.args.retire r r.agreed)) c.shown.view_is
    (rw c.in-Some.is (then (then c.mode.ensures c.state.ensures) (subst (λ r. Prints g.K.Sink.written g.K.Sink.faults c.state.new.self c.state.new.sink c.settled_so.new.self c.settled_so.new.sink (settled_text c.args.common.now.nodes r)) (sym c.shown.view_is) c.settled_so.ensures)))

pub mode-requires : goal.mode-requires
mode-requires g c = assumption

pub text-requires : goal.text-requires
text-requires g c = assumption

pub returns-in-None : goal.returns-in-None
returns-in-None g c =
    subst (λ r. Prints g.K.Sink.written g.K.Sink.faults c.args.self.now c.args.sink.now c.text.new.self c.text.new.sink (beliefs_text c.args.common.now.nodes c.args.retire r r.agreed)) c.shown.view_is
    (rw c.in-None.is c.text.ensures)

pub state-requires : goal.state-requires
state-requires g c = (assumption, elim g.bound-2.eight_or_sixteen [ inl e ↦ rw e (lit< tt, lit< tt) | inr e ↦ rw e (lit< tt, lit< tt) ])

pub settled_so-requires : goal.settled_so-requires
settled_so-requires g c = (assumption, elim g.bound-2.eight_or_sixteen [ inl e ↦ rw e (lit< tt, lit< tt) | inr e ↦ rw e (lit< tt, lit< tt) ])
