use Rattle.std.proofs.Common.{sym, inl, inr, lit<}
use Rattle.run_print.proofs.Joining.{then}
use Rattle.run_print.proofs.printer.Printer.standing.Goals as goal

pub returns : goal.returns
returns g c =
    rw (sym c.agreed.view_is)
    (then (then (then (then (then c.text.ensures c.set.ensures) c.text-2.ensures) c.mostly_zeros.ensures) c.text-3.ensures) c.mostly_zeros-2.ensures)

pub text-requires : goal.text-requires
text-requires g c = assumption

pub text-requires-2 : goal.text-requires-2
text-requires-2 g c = assumption

pub text-requires-3 : goal.text-requires-3
text-requires-3 g c = assumption

pub set-requires : goal.set-requires
set-requires g c = (assumption, lit< tt)

pub mostly_zeros-requires : goal.mostly_zeros-requires
mostly_zeros-requires g c = (assumption, elim g.bound-2.eight_or_sixteen [ inl e ↦ rw e (lit< tt) | inr e ↦ rw e (lit< tt) ])

pub mostly_zeros-requires-2 : goal.mostly_zeros-requires-2
mostly_zeros-requires-2 g c = (assumption, elim g.bound-2.eight_or_sixteen [ inl e ↦ rw e (lit< tt) | inr e ↦ rw e (lit< tt) ])
