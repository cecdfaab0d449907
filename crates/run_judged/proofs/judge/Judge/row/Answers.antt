use Rattle.std.proofs.Common.{inl, inr, lit<}
use Rattle.run_judged.proofs.judge.Judge.row.Goals as goal

pub config-config-requires : goal.config-config-requires
config-config-requires g c = (elim g.bound-1.eight_or_sixteen [ inl e ↦ rw e (lit< tt) | inr e ↦ rw e (lit< tt) ], elim g.bound-1.eight_or_sixteen [ inl e ↦ rw e (lit< tt) | inr e ↦ rw e (lit< tt) ])

pub plan-plan-requires : goal.plan-plan-requires
plan-plan-requires g c = (elim g.bound-1.eight_or_sixteen [ inl e ↦ rw e (lit< tt) | inr e ↦ rw e (lit< tt) ], lit< tt)

pub periods-requires : goal.periods-requires
periods-requires g c = elim g.bound-1.eight_or_sixteen [ inl e ↦ rw e (lit< tt) | inr e ↦ rw e (lit< tt) ]
