use Rattle.std.proofs.Common.{inl, inr, lit<}
use Rattle.top_call.proofs.node_core++controller++Controller+Destruct.drop.Goals as goal

pub drop-requires-2 : goal.drop-requires-2
drop-requires-2 g c = elim c.drop.invariant.place.capacity [ inl e ↦ rw e (lit< tt) | inr e ↦ rw e (lit< tt) ]
