use Rattle.std.proofs.Common.{ℕ, List, [], Option, get_or, sym, subst, ◌∙◌}
use Rattle.std.specs.Prelude.{IsTrue, ◌↔◌}
use Rattle.node_grid.specs.NodeSet.{has_id}
use Rattle.node_grid.specs.SetFacts.{member-lt}
use Rattle.agreed_state.specs.Agreed.{AgreedView}
use Rattle.shared_states.specs.Sharing.{IsShared}
use Rattle.shared_states.specs.Places.{IsAlike}
use Rattle.shared_states.proofs.Views.{alike_none, alike_all, alike_by}
use Rattle.shared_states.proofs.states.SharedStates.alike.Goals as goal

pub returns-then-not-has : goal.returns-then-not-has
returns-then-not-has g c =
    let s = c.self.inside in
    let ok = c.self.invariant in
    subst (λ (t : List ℕ). (j : ℕ) → IsTrue (has_id t j) ↔ IsShared c.args.self.now c.args.i j) (sym c.empty.ensures)
    (subst (λ (v : List (Option AgreedView)). (j : ℕ) → IsTrue (has_id [] j) ↔ IsShared v c.args.i j) c.self.view_is
    (alike_none g.row.N s.awake s.places s.states.items ok.ids ok.room ok.placed c.args.i (sym c.has.ensures ∙ c.if-not-has.true)))

pub returns-then-self : goal.returns-then-self
returns-then-self g c =
    let s = c.self.inside in
    let ok = c.self.invariant in
    subst (λ (v : List (Option AgreedView)). (j : ℕ) → IsTrue (has_id s.awake j) ↔ IsShared v c.args.i j) c.self.view_is
    (alike_all g.row.N s.awake s.places s.states.items ok.ids ok.room ok.placed c.args.i (sym c.has.ensures ∙ c.if-not-has.false) (ok.at_one c.if-self.true))

pub bounds-self-inside-i : goal.bounds-self-inside-i
bounds-self-inside-i g c = member-lt g.row.N c.self.inside.awake c.args.i c.self.invariant.ids (sym c.has.ensures ∙ c.if-not-has.false)

pub returns : goal.returns
returns g c =
    let s = c.self.inside in
    let ok = c.self.invariant in
    subst (λ (v : List (Option AgreedView)). (j : ℕ) → IsTrue (has_id c.nodes_alike.result j) ↔ IsShared v c.args.i j) c.self.view_is
    (alike_by g.row.N s.awake s.places s.states.items ok.ids ok.room ok.placed c.nodes_alike.result c.args.i (sym c.has.ensures ∙ c.if-not-has.false)
    (subst (λ (xs : List AgreedView). (j : ℕ) → IsTrue (has_id c.nodes_alike.result j) ↔ IsAlike xs s.awake s.places (get_or s.places c.args.i 0) j) c.as_slice.ensures.value c.nodes_alike.ensures))
