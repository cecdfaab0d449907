use Rattle.std.proofs.Common.{ℕ, ◌<◌, List, length, ap, ◌∙◌, arith}
use Rattle.std.specs.Prelude.{slice_index_or}
use Rattle.node_grid.specs.ListFacts.{same_at}
use Rattle.shared_states.specs.declared.belief.Belief.{Belief}
use Rattle.at_once.specs.Values.{no_belief}
use Rattle.at_once.proofs.dues.GroupBeliefs.due.Goals as goal

pub returns : goal.returns
returns g c =
    let beliefs : List (Belief g.row.N) = c.args.self.now.beliefs.now in
    let room : c.of.result < length beliefs = omega (arith, c.of.ensures.early, c.requires, c.args.self.now.many) in
    c.as_slice.ensures.value
    ∙ ap (λ (b : Belief g.row.N). b.due.items) (same_at beliefs c.of.result c.index-self-of.result no_belief room)
    ∙ ap (λ (f : ℕ). (slice_index_or beliefs f no_belief).due.items) c.of.ensures.first
