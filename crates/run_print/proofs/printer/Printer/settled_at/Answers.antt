use Rattle.std.proofs.Common.{subst, List, ℕ, inl, inr, lit<}
use Rattle.shown_period.specs.Outcomes.{outcome_at}
use Rattle.run_print.specs.Printing.{Prints}
use Rattle.run_print.proofs.Joining.{then_three}
use Rattle.run_print.proofs.Alike.{settled_by}
use Rattle.run_print.proofs.printer.Printer.settled_at.Goals as goal

pub returns : goal.returns
returns g c =
    subst (λ (text : List ℕ). Prints g.K.Sink.written g.K.Sink.faults c.args.self.now c.args.sink.now c.votes_line.new.self c.votes_line.new.sink text)
    (settled_by c.args.shown.now.head.nodes (outcome_at c.args.shown.now.made c.args.i) c.belief-belief.result.now c.members-members.result.now c.belief-belief.ensures c.members-members.ensures)
    (then_three _ _ _ c.claims_and_rows.ensures (rw c.as_slice.ensures.value at c.votes_line.ensures))

pub belief-belief-requires : goal.belief-belief-requires
belief-belief-requires g c = (elim g.bound-2.eight_or_sixteen [ inl e ↦ rw e (lit< tt) | inr e ↦ rw e (lit< tt) ], (elim g.bound-2.eight_or_sixteen [ inl e ↦ rw e (lit< tt) | inr e ↦ rw e (lit< tt) ], (c.requires.node, c.requires.printable.beliefs)))

pub members-members-requires : goal.members-members-requires
members-members-requires g c = (elim g.bound-2.eight_or_sixteen [ inl e ↦ rw e (lit< tt) | inr e ↦ rw e (lit< tt) ], (lit< tt, c.requires.node))

pub claims_and_rows-requires : goal.claims_and_rows-requires
claims_and_rows-requires g c =
    (assumption, (lit< tt, (elim g.bound-2.eight_or_sixteen [ inl e ↦ rw e (lit< tt) | inr e ↦ rw e (lit< tt) ], elim g.bound-2.eight_or_sixteen [ inl e ↦ rw e (lit< tt) | inr e ↦ rw e (lit< tt) ])))
