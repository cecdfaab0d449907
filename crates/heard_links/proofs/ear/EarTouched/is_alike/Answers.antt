use Rattle.std.proofs.Common.{rules, inl, inr, lit<}
use Rattle.heard_links.proofs.ear.EarTouched.is_alike.Goals as goal

pub is_alike-requires : goal.is_alike-requires
is_alike-requires g c = (search rules, (elim c.self.invariant.set.capacity [ inl e ↦ rw e (lit< tt) | inr e ↦ rw e (lit< tt) ], c.self.invariant))
