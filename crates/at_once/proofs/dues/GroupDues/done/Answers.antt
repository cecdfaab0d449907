use Rattle.std.proofs.Common.{ℕ, ◌<◌, List, length, ap, ◌∙◌, arith, inl, inr, lit<}
use Rattle.std.specs.Prelude.{slice_index_or}
use Rattle.node_grid.specs.ListFacts.{same_at}
use Rattle.shared_states.specs.declared.belief.Belief.{Belief}
use Rattle.at_once.specs.Values.{no_belief, done_at}
use Rattle.at_once.proofs.dues.GroupDues.done.Goals as goal

pub of-requires : goal.of-requires
of-requires g c = (elim c.self.invariant.capacity [ inl e ↦ rw e (lit< tt) | inr e ↦ rw e (lit< tt) ], c.requires)

pub returns : goal.returns
returns g c =
    let beliefs : List (Belief g.row.N) = c.self.inside.beliefs.now in
    let room : c.of.result < length beliefs = omega (arith, c.of.ensures.early, c.requires, c.self.invariant.many) in
    ap (λ (b : Belief g.row.N). b.done) (same_at beliefs c.of.result c.index-self-of.result no_belief room)
    ∙ ap (λ (f : ℕ). (slice_index_or beliefs f no_belief).done) c.of.ensures.first
    ∙ ap (λ (s : List ℕ × List (Belief g.row.N)). done_at s.0 s.1 c.args.i) c.self.view_is
