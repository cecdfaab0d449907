use Rattle.std.proofs.Common.{inl, inr, lit<}
use Rattle.top_call.proofs.Printed.{told_whole, told_faultless, told_fault, told_memory}
use Rattle.top_call.proofs.alone.write_log.Goals as goal

pub open-requires : goal.open-requires
open-requires g c = (elim g.bound-2.eight_or_sixteen [ inl e ↦ rw e (lit< tt) | inr e ↦ rw e (lit< tt) ], elim g.bound-2.eight_or_sixteen [ inl e ↦ rw e (lit< tt) | inr e ↦ rw e (lit< tt) ])

pub write_run-requires : goal.write_run-requires
write_run-requires g c = (elim g.bound-2.eight_or_sixteen [ inl e ↦ rw e (lit< tt) | inr e ↦ rw e (lit< tt) ], (elim g.bound-2.eight_or_sixteen [ inl e ↦ rw e (lit< tt) | inr e ↦ rw e (lit< tt) ], c.in-Ok.ensures))

pub returns : goal.returns
returns g c =
    let wrote = c.write_run.ensures in
    let told = c.told.ensures in
    record { written = told_whole _ _ wrote told; faultless = told_faultless _ _ wrote told; write_fault = told_fault _ _ wrote told; no_memory = told_memory _ _ told }
