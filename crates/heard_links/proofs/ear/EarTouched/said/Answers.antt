use Rattle.std.proofs.Common.{rules, inl, inr, lit<}
use Rattle.heard_links.proofs.ear.EarTouched.said.Goals as goal

pub said-requires : goal.said-requires
said-requires g c = (search rules, (elim c.self.invariant.set.capacity [ inl e ↦ rw e (lit< tt) | inr e ↦ rw e (lit< tt) ], c.self.invariant))
