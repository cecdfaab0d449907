use Rattle.std.proofs.Common.{ℕ, ◌≡◌, true, List, sym, subst, ◌∙◌}
use Rattle.node_grid.specs.NodeSet.{has_id}
use Rattle.node_grid.specs.SetFacts.{all_within}
use Rattle.shared_states.specs.declared.belief.Belief.{Belief}
use Rattle.at_once.specs.Values.{due_at}
use Rattle.at_once.proofs.dues.GroupDuesDues.are_alike.Goals as goal

pub returns-then-has : goal.returns-then-has
returns-then-has g c = λ yes j on.
    let alike : List ℕ = c.self.inside.alike in
    let i_in : has_id alike c.args.i ≡ true = sym c.has.ensures ∙ c.if-has.true in
    let j_in : has_id alike j ≡ true = all_within c.args.nodes.now alike j (sym c.minus.ensures ∙ c.is_empty.ensures.0 yes) on in
    subst (λ (s : List ℕ × List (Belief g.row.N)). due_at s j ≡ due_at s c.args.i) c.self.view_is (c.self.invariant.alike_are j c.args.i j_in i_in)
