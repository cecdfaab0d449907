use Rattle.std.proofs.Common.{lit<, inl, inr}
use Rattle.agreed_state.proofs.agreed.Agreed.table_fits.Goals as goal

pub copies_fit-requires : goal.copies_fit-requires
copies_fit-requires g c = (lit< tt, elim g.bound-1.eight_or_sixteen [ inl e ↦ rw e (lit< tt) | inr e ↦ rw e (lit< tt) ])

pub runs_fit-requires : goal.runs_fit-requires
runs_fit-requires g c = (lit< tt, (lit< tt, elim g.bound-1.eight_or_sixteen [ inl e ↦ rw e (lit< tt) | inr e ↦ rw e (lit< tt) ]))
