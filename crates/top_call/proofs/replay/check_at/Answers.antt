use Rattle.std.proofs.Common.{inl, inr, lit<}
use Rattle.top_call.proofs.replay.check_at.Goals as goal

pub run_and_write-requires : goal.run_and_write-requires
run_and_write-requires g c = elim g.bound-2.eight_or_sixteen [ inl e ↦ rw e (lit< tt) | inr e ↦ rw e (lit< tt) ]

pub returns : goal.returns
returns g c = c.run_and_write.ensures
