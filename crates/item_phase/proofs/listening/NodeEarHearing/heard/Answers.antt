use Rattle.std.proofs.Common.{rules, inl, inr, lit<}
use Rattle.item_phase.proofs.listening.NodeEarHearing.heard.Goals as goal

pub heard_or-requires : goal.heard_or-requires
heard_or-requires g c = (search rules, (elim c.self.invariant.set.capacity [ inl e ↦ rw e (lit< tt) | inr e ↦ rw e (lit< tt) ], c.self.invariant))
