use Rattle.std.proofs.Common.{ℕ, ◌≡◌, true, List, sym, ◌∙◌, lit<, inl, inr}
use Rattle.std.proofs.lemmas.Bool.{false≢true}
use Rattle.node_grid.specs.Capacity.{IsCapacity}
use Rattle.node_grid.specs.NodeSet.{has_id}
use Rattle.at_once.specs.Kept.{of_node}
use Rattle.at_once.proofs.rows.fn.group_by_rows.refine.Goals.{then-has, else-has, then-has-2, else-has-2}
use Rattle.at_once.proofs.rows.fn.group_by_rows.refine.Goals as goal

pub are_alike-requires-then-are_alike : goal.are_alike-requires-then-are_alike
are_alike-requires-then-are_alike g c =
    let cap : IsCapacity g.row.N = c.requires.heard.set.capacity in
    let nodes : List ℕ = c.captures.phase.now.awake in
    let both : (has_id nodes c.args.r ≡ true) × (has_id nodes c.args.i ≡ true) = elim c.if-has-2.branch [
      | then-has-2 w ↦ elim c.if-has.branch [
        | then-has w' ↦ (sym c.has.ensures ∙ w'.if-has.true, sym w'.has-then-has.ensures ∙ sym w'.value-is ∙ w.if-has-2.true)
        | else-has w' ↦ absurd (false≢true (sym w'.if-has.false ∙ sym w'.value-is ∙ w.if-has-2.true))
      ]
      | else-has-2 w ↦ absurd (false≢true (sym w.if-has-2.false ∙ sym w.value-is ∙ c.if-are_alike.true))
    ] in
    (elim cap [ inl e ↦ rw e (lit< tt) | inr e ↦ rw e (lit< tt) ], (elim cap [ inl e ↦ rw e (lit< tt) | inr e ↦ rw e (lit< tt) ], (c.requires, (both.0, both.1))))

pub returns-then-are_alike : goal.returns-then-are_alike
returns-then-are_alike g c =
    let votes : of_node c.captures.votes.now c.args.r ≡ of_node c.captures.votes.now c.args.i = elim c.if-has-2.branch [
      | then-has-2 w ↦ w.are_alike.ensures (sym w.value-is ∙ c.if-are_alike.true)
      | else-has-2 w ↦ absurd (false≢true (sym w.if-has-2.false ∙ sym w.value-is ∙ c.if-are_alike.true))
    ] in
    record {
      votes = λ t. votes;
      alike = λ t. (c.are_alike-then-are_alike.ensures.members t, c.are_alike-then-are_alike.ensures.alike t);
    }
