use Rattle.std.proofs.Common.{inl, inr, lit<}
use Rattle.run_print.proofs.common.Common.of.Goals as goal

pub standing_of-requires : goal.standing_of-requires
standing_of-requires g c = elim g.bound-1.eight_or_sixteen [ inl e ↦ rw e (lit< tt) | inr e ↦ rw e (lit< tt) ]

pub settled_of-requires : goal.settled_of-requires
settled_of-requires g c = elim g.bound-1.eight_or_sixteen [ inl e ↦ rw e (lit< tt) | inr e ↦ rw e (lit< tt) ]

pub invariant_of-result : goal.invariant_of-result
invariant_of-result g c = record { stands = c.standing_of.ensures; settles = c.settled_of.ensures }
