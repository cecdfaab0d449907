use Rattle.std.proofs.Common.{inl, inr, sym, subst, lit<}
use Rattle.node_steps.specs.Parts.{NodeView}
use Rattle.node_core.specs.Between.{IsNode}
use Rattle.node_core.proofs.node.Node.swap_rooms.Goals as goal

pub swap_rooms-requires : goal.swap_rooms-requires
swap_rooms-requires g c = elim c.self.invariant.capacity [ inl e ↦ rw e (lit< tt) | inr e ↦ rw e (lit< tt) ]

pub invariant_of-self : goal.invariant_of-self
invariant_of-self g c = subst (λ (v : NodeView g.row.N). IsNode v) (sym c.swap_rooms.ensures) c.self.invariant
