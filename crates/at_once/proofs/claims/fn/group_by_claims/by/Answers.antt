use Rattle.std.proofs.Common.{◌≡◌, true, List, ℕ, sym, ◌∙◌, lit<, inl, inr}
use Rattle.std.proofs.lemmas.Bool.{false≢true}
use Rattle.node_grid.specs.Capacity.{IsCapacity}
use Rattle.node_grid.specs.NodeSet.{has_id}
use Rattle.shared_states.specs.Sharing.{IsShared}
use Rattle.at_once.proofs.claims.fn.group_by_claims.by.Goals.{then-has, else-has, then-has-2, else-has-2}
use Rattle.at_once.proofs.claims.fn.group_by_claims.by.Goals as goal

pub are_alike-requires : goal.are_alike-requires
are_alike-requires g c =
    let cap : IsCapacity g.row.N = c.requires.heard.set.capacity in
    let nodes : List ℕ = c.captures.phase.now.awake in
    let both : (has_id nodes c.args.r ≡ true) × (has_id nodes c.args.i ≡ true) = elim c.if-has-2.branch [
      | then-has-2 w ↦ elim c.if-has.branch [
        | then-has w' ↦ (sym c.has.ensures ∙ w'.if-has.true, sym w'.has-then-has.ensures ∙ sym w'.value-is ∙ w.if-has-2.true)
        | else-has w' ↦ absurd (false≢true (sym w'.if-has.false ∙ sym w'.value-is ∙ w.if-has-2.true))
      ]
      | else-has-2 w ↦ absurd (false≢true (sym w.if-has-2.false ∙ sym w.value-is ∙ c.if-is_shared.true))
    ] in
    (elim cap [ inl e ↦ rw e (lit< tt) | inr e ↦ rw e (lit< tt) ], (elim cap [ inl e ↦ rw e (lit< tt) | inr e ↦ rw e (lit< tt) ], (c.requires, (both.0, both.1))))

pub returns-then-is_shared : goal.returns-then-is_shared
returns-then-is_shared g c =
    let shared : IsShared c.captures.states.now c.args.r c.args.i = elim c.if-has-2.branch [
      | then-has-2 w ↦ w.is_shared.ensures (sym w.value-is ∙ c.if-is_shared.true)
      | else-has-2 w ↦ absurd (false≢true (sym w.if-has-2.false ∙ sym w.value-is ∙ c.if-is_shared.true))
    ] in
    record {
      shared = λ t. shared;
      alike = λ t. (c.are_alike.ensures.members t, c.are_alike.ensures.alike t);
    }
