use Rattle.std.proofs.Common.{inl, inr, lit<}
use Rattle.top_call.proofs.node_core++node++Node+Destruct.drop.Goals as goal

pub drop-requires : goal.drop-requires
drop-requires g c = elim c.drop.invariant.capacity [ inl e ↦ rw e (lit< tt) | inr e ↦ rw e (lit< tt) ]
