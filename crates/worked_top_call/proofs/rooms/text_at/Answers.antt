use Rattle.std.proofs.Common.{inl, inr, lit<}
use Rattle.worked_top_call.proofs.rooms.text_at.Goals as goal

pub replay_at-requires : goal.replay_at-requires
replay_at-requires g c = elim g.bound-1.eight_or_sixteen [ inl e ↦ rw e (lit< tt) | inr e ↦ rw e (lit< tt) ]

pub read-requires : goal.read-requires
read-requires g c = elim g.bound-1.eight_or_sixteen [ inl e ↦ rw e (lit< tt) | inr e ↦ rw e (lit< tt) ]
