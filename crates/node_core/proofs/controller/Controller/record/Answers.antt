use Rattle.std.proofs.Common.{ap, ◌∙◌, inl, inr, lit<}
use Rattle.node_steps.specs.Parts.{NodeView}
use Rattle.node_core.proofs.controller.Controller.record.Goals as goal

pub returns : goal.returns
returns g c = c.copied.ensures ∙ ap (λ (v : NodeView g.row.N). v.outcome) c.self.view_is

pub copied-requires : goal.copied-requires
copied-requires g c = elim c.self.invariant.place.capacity [ inl e ↦ rw e (lit< tt) | inr e ↦ rw e (lit< tt) ]
