use Rattle.std.proofs.Common.{subst, inl, inr, lit<}
use Rattle.run_print.specs.Printing.{Prints}
use Rattle.run_text.specs.NodeText.{settled_text}
use Rattle.run_print.proofs.Joining.{then_three}
use Rattle.run_print.proofs.printer.Printer.settled.Goals as goal

pub returns : goal.returns
returns g c =
    subst (λ r. Prints g.K.Sink.written g.K.Sink.faults c.args.self.now c.args.sink.now c.votes_line.new.self c.votes_line.new.sink (settled_text c.args.nodes r)) c.shown.view_is
    (then_three _ _ _ c.claims_and_rows.ensures (rw c.as_slice.ensures.value at c.votes_line.ensures))

pub as_slice-requires : goal.as_slice-requires
as_slice-requires g c = lit< tt

pub claims_and_rows-requires : goal.claims_and_rows-requires
claims_and_rows-requires g c =
    (assumption, (lit< tt, (elim g.bound-2.eight_or_sixteen [ inl e ↦ rw e (lit< tt) | inr e ↦ rw e (lit< tt) ], elim g.bound-2.eight_or_sixteen [ inl e ↦ rw e (lit< tt) | inr e ↦ rw e (lit< tt) ])))
