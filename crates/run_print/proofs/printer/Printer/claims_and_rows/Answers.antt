use Rattle.std.proofs.Common.{inl, inr, lit<}
use Rattle.run_print.proofs.Joining.{then}
use Rattle.run_print.proofs.printer.Printer.claims_and_rows.Goals as goal

pub returns : goal.returns
returns g c = then (then (then c.text.ensures c.done.ensures) c.text-2.ensures) c.rows.ensures

pub done-requires : goal.done-requires
done-requires g c = (assumption, (elim g.bound-2.eight_or_sixteen [ inl e ↦ rw e (lit< tt) | inr e ↦ rw e (lit< tt) ], lit< tt))

pub rows-requires : goal.rows-requires
rows-requires g c = (assumption, (elim g.bound-2.eight_or_sixteen [ inl e ↦ rw e (lit< tt) | inr e ↦ rw e (lit< tt) ], lit< tt))
