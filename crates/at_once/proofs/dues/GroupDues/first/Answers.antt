use Rattle.std.proofs.Common.{List, ℕ, ap, ◌∙◌, inl, inr, lit<}
use Rattle.shared_states.specs.declared.belief.Belief.{Belief}
use Rattle.grouped_nodes.specs.Grouping.{first_of}
use Rattle.at_once.proofs.dues.GroupDues.first.Goals as goal

pub of-requires : goal.of-requires
of-requires g c = (elim c.self.invariant.capacity [ inl e ↦ rw e (lit< tt) | inr e ↦ rw e (lit< tt) ], c.requires)

pub returns-clause-first : goal.returns-clause-first
returns-clause-first g c = c.of.ensures.first ∙ ap (λ (s : List ℕ × List (Belief g.row.N)). first_of s.0 c.args.i) c.self.view_is
