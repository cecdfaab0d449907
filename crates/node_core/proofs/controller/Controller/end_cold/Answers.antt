use Rattle.std.proofs.Common.{inl, inr, lit<}
use Rattle.node_core.proofs.Ended.{recorded}
use Rattle.node_core.proofs.controller.Controller.end_cold.Goals as goal

pub cold-outcome-requires : goal.cold-outcome-requires
cold-outcome-requires g c = elim g.bound-1.eight_or_sixteen [ inl e ↦ rw e (lit< tt) | inr e ↦ rw e (lit< tt) ]

pub invariant_of-self : goal.invariant_of-self
invariant_of-self g c = recorded c.self.inside _ c.self.invariant

pub restart-requires : goal.restart-requires
restart-requires g c = elim g.bound-1.eight_or_sixteen [ inl e ↦ rw e (lit< tt) | inr e ↦ rw e (lit< tt) ]
