use Rattle.std.proofs.Common.{rules, inl, inr, lit<}
use Rattle.heard_links.proofs.ear.EarTouched.is_untouched.Goals as goal

pub is_untouched-requires : goal.is_untouched-requires
is_untouched-requires g c = (search rules, (elim c.self.invariant.set.capacity [ inl e ↦ rw e (lit< tt) | inr e ↦ rw e (lit< tt) ], c.self.invariant))
