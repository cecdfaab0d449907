use Rattle.std.proofs.Common.{ℕ, ◌≡◌, true, List, sym, ap, subst, ◌∙◌, inl, inr, lit<}
use Rattle.std.specs.Prelude.{slice_index_or}
use Rattle.node_grid.specs.NodeSet.{has_id}
use Rattle.shared_states.specs.declared.belief.Belief.{Belief}
use Rattle.at_once.specs.Values.{no_belief, due_at}
use Rattle.at_once.proofs.dues.GroupDuesDues.is_alike.Goals as goal

pub of-requires : goal.of-requires
of-requires g c = (elim c.self.invariant.capacity [ inl e ↦ rw e (lit< tt) | inr e ↦ rw e (lit< tt) ], c.requires.first)

pub of-requires-2 : goal.of-requires-2
of-requires-2 g c = (elim c.self.invariant.capacity [ inl e ↦ rw e (lit< tt) | inr e ↦ rw e (lit< tt) ], c.requires.second)

pub returns-then-of : goal.returns-then-of
returns-then-of g c = λ yes.
    let groups : List ℕ = c.self.inside.groups.now in
    let beliefs : List (Belief g.row.N) = c.self.inside.beliefs.now in
    let same : due_at (groups, beliefs) c.args.i ≡ due_at (groups, beliefs) c.args.j =
    ap (λ (f : ℕ). (slice_index_or beliefs f no_belief).due.items) (sym c.of.ensures.first ∙ c.if-of.true ∙ c.of-2.ensures.first) in
    subst (λ (s : List ℕ × List (Belief g.row.N)). due_at s c.args.i ≡ due_at s c.args.j) c.self.view_is same

pub returns-then-has : goal.returns-then-has
returns-then-has g c = λ yes.
    let i_in : has_id c.self.inside.alike c.args.i ≡ true = sym c.has.ensures ∙ c.if-has.true in
    let j_in : has_id c.self.inside.alike c.args.j ≡ true = sym c.has-then-has.ensures ∙ yes in
    subst (λ (s : List ℕ × List (Belief g.row.N)). due_at s c.args.i ≡ due_at s c.args.j) c.self.view_is (c.self.invariant.alike_are c.args.i c.args.j i_in j_in)
