use Rattle.std.proofs.Common.{ℤ, ◌≡◌, List, Option, sym, ap, subst, ◌∙◌}
use Rattle.node_grid.specs.ListFacts.{votes_same}
use Rattle.at_once.specs.Kept.{of_node}
use Rattle.at_once.proofs.votes.Votes.are_alike.Goals as goal

pub returns-then-self-i : goal.returns-then-self-i
returns-then-self-i g c same =
    let votes : List (List (Option ℤ)) = c.self.inside.votes in
    subst (λ (vs : List (List (Option ℤ))). of_node vs c.args.i ≡ of_node vs c.args.j) c.self.view_is
    (sym (c.self.invariant c.args.i c.if-i.false) ∙ ap (of_node votes) c.if-self-i.true ∙ c.self.invariant c.args.j c.if-j.false)

pub returns : goal.returns
returns g c same =
    let votes : List (List (Option ℤ)) = c.self.inside.votes in
    subst (λ (vs : List (List (Option ℤ))). of_node vs c.args.i ≡ of_node vs c.args.j) c.self.view_is (votes_same (of_node votes c.args.i) (of_node votes c.args.j) (sym c.eq.ensures ∙ same))
