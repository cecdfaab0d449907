use Rattle.std.proofs.Common.{◌≡◌, ℕ, List, true, not, ◌==◌, sym, ap, subst, ◌∙◌}
use Rattle.std.proofs.lemmas.Bool.{and_parts}
use Rattle.node_grid.specs.NodeSet.{has_id, without_id}
use Rattle.node_grid.specs.NodeSetLaws.{has-without_id}
use Rattle.shared_states.specs.Places.{ArePlaces, states_by}
use Rattle.shared_states.proofs.Free.{filtered_ids}
use Rattle.shared_states.proofs.Views.{forgotten}
use Rattle.shared_states.proofs.states.SharedStates.forget.Goals as goal

pub invariant_of-self : goal.invariant_of-self
invariant_of-self g c =
    let n = g.row.N in
    let s = c.self.inside in
    let ok = c.self.invariant in
    let was : (j : ℕ) → has_id (without_id s.awake c.args.i) j ≡ true → has_id s.awake j ≡ true = λ j up. (and_parts (not (j == c.args.i)) (has_id s.awake j) (sym (has-without_id s.awake c.args.i j) ∙ up)).1 in
    subst (λ (up : List ℕ). ArePlaces n up s.places s.states.items s.one) (sym c.cut.ensures) (record {
      capacity = ok.capacity;
      ids = filtered_ids (λ k. not (k == c.args.i)) n s.awake ok.ids;
      room = ok.room;
      placed = λ j up. ok.placed j (was j up);
      at_one = λ same i j up other. ok.at_one same i j (was i up) (was j other);
    })

pub returns : goal.returns
returns g c =
    let n = g.row.N in
    let s = c.self.inside in
    ap (λ (up : List ℕ). states_by n up s.places s.states.items) c.cut.ensures ∙ forgotten n s.awake s.places s.states.items c.args.self.now c.args.i c.self.invariant.ids c.self.view_is
