use Rattle.std.proofs.Common.{sym, inl, inr, lit<}
use Rattle.run_print.proofs.Joining.{then}
use Rattle.run_print.proofs.printer.Printer.beliefs_at.Goals as goal

pub returns-in-Some : goal.returns-in-Some
returns-in-Some g c = rw (sym c.in-Some.ensures) (then (then (rw c.mode.ensures at c.mode-in-Some.ensures) c.whole_state.ensures) c.settled_at.ensures)

pub returns-in-None : goal.returns-in-None
returns-in-None g c = rw (sym c.in-None.ensures) c.text.ensures

pub agreed-requires : goal.agreed-requires
agreed-requires g c = (elim g.bound-2.eight_or_sixteen [ inl e ↦ rw e (lit< tt) | inr e ↦ rw e (lit< tt) ], elim g.bound-2.eight_or_sixteen [ inl e ↦ rw e (lit< tt) | inr e ↦ rw e (lit< tt) ])

pub mode-requires : goal.mode-requires
mode-requires g c = (elim g.bound-2.eight_or_sixteen [ inl e ↦ rw e (lit< tt) | inr e ↦ rw e (lit< tt) ], c.requires.node)

pub whole_state-requires : goal.whole_state-requires
whole_state-requires g c = (assumption, (elim g.bound-2.eight_or_sixteen [ inl e ↦ rw e (lit< tt) | inr e ↦ rw e (lit< tt) ], (elim g.bound-2.eight_or_sixteen [ inl e ↦ rw e (lit< tt) | inr e ↦ rw e (lit< tt) ], (c.requires.printable.tasks, c.requires.printable.idle c.args.i _ (sym c.in-Some.ensures)))))

pub settled_at-requires : goal.settled_at-requires
settled_at-requires g c = (assumption, (elim g.bound-2.eight_or_sixteen [ inl e ↦ rw e (lit< tt) | inr e ↦ rw e (lit< tt) ], (c.requires.printable, c.requires.node)))
