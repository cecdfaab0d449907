use Rattle.std.proofs.Common.{inl, inr, lit<}
use Rattle.top_call.proofs.program.write_form.Goals as goal

pub replay_at-requires : goal.replay_at-requires
replay_at-requires g c = elim g.bound-2.eight_or_sixteen [ inl e ↦ rw e (lit< tt) | inr e ↦ rw e (lit< tt) ]

pub replay_at-requires-in-Trace : goal.replay_at-requires-in-Trace
replay_at-requires-in-Trace g c = elim g.bound-2.eight_or_sixteen [ inl e ↦ rw e (lit< tt) | inr e ↦ rw e (lit< tt) ]

pub check_at-requires : goal.check_at-requires
check_at-requires g c = elim g.bound-2.eight_or_sixteen [ inl e ↦ rw e (lit< tt) | inr e ↦ rw e (lit< tt) ]

pub returns-in-Replay : goal.returns-in-Replay
returns-in-Replay g c = rw c.in-Replay.is c.replay_at.ensures

pub returns-in-Trace : goal.returns-in-Trace
returns-in-Trace g c = rw c.in-Trace.is c.replay_at-in-Trace.ensures

pub returns-in-Check : goal.returns-in-Check
returns-in-Check g c = rw c.in-Check.is c.check_at.ensures
