use Rattle.std.proofs.Common.{◌≡◌, ◌&&◌, ◌==◌, ℕ, List, Option, true, false, sym, ap, refl, subst, ◌∙◌, get_or, eqb-true, eq-eqb}
use Rattle.std.specs.Prelude.{is_some}
use Rattle.std.proofs.lemmas.Bool.{and_parts, and_from}
use Rattle.node_grid.specs.NodeSet.{has_id}
use Rattle.node_grid.specs.NodeSetLaws.{has-filter, passes_where}
use Rattle.node_grid.specs.SetFacts.{member-lt}
use Rattle.agreed_state.specs.Agreed.{AgreedView}
use Rattle.shared_states.specs.Sharing.{state_at, IsShared}
use Rattle.shared_states.proofs.Views.{shared, has_state}
use Rattle.shared_states.proofs.states.SharedStates.sharers.Goals as goal

pub returns-then-not-has-clause-own : goal.returns-then-not-has-clause-own
returns-then-not-has-clause-own g c = λ there.
    let s = c.self.inside in
    let ok = c.self.invariant in
    let on : has_id s.awake c.args.i ≡ true = sym (has_state g.row.N s.awake s.places s.states.items ok.ids ok.room ok.placed c.args.i) ∙ ap (λ (v : List (Option AgreedView)). is_some (state_at v c.args.i)) c.self.view_is ∙ there in
    let off : false ≡ true = sym c.if-not-has.true ∙ c.has.ensures ∙ on in
    absurd (cc)

pub returns-then-self-clause-shared : goal.returns-then-self-clause-shared
returns-then-self-clause-shared g c = λ j up.
    let s = c.self.inside in
    let ok = c.self.invariant in
    let on : has_id s.awake c.args.i ≡ true = sym c.has.ensures ∙ c.if-not-has.false in
    subst (λ (v : List (Option AgreedView)). IsShared v c.args.i j) c.self.view_is
    (shared g.row.N s.awake s.places s.states.items ok.ids ok.room ok.placed c.args.i j on up (ok.at_one c.if-self.true j c.args.i up on))

pub bounds-self-inside-i : goal.bounds-self-inside-i
bounds-self-inside-i g c = member-lt g.row.N c.self.inside.awake c.args.i c.self.invariant.ids (sym c.has.ensures ∙ c.if-not-has.false)

pub returns-clause-shared : goal.returns-clause-shared
returns-clause-shared g c = λ j up.
    let s = c.self.inside in
    let ok = c.self.invariant in
    let test : ℕ → _ = λ k. has_id s.awake k && (get_or s.places k 0 == get_or s.places c.args.i 0) in
    let passed = and_parts (has_id s.awake j) _ (passes_where test g.row.N j (sym (ap (λ (t : List ℕ). has_id t j) c.nodes_at.ensures) ∙ up)) in
    let on : has_id s.awake c.args.i ≡ true = sym c.has.ensures ∙ c.if-not-has.false in
    subst (λ (v : List (Option AgreedView)). IsShared v c.args.i j) c.self.view_is
    (shared g.row.N s.awake s.places s.states.items ok.ids ok.room ok.placed c.args.i j on passed.0 (sym (eqb-true _ _ passed.1)))

pub returns-clause-own : goal.returns-clause-own
returns-clause-own g c = λ there.
    let s = c.self.inside in
    let on : has_id s.awake c.args.i ≡ true = sym c.has.ensures ∙ c.if-not-has.false in
    let test : ℕ → _ = λ k. has_id s.awake k && (get_or s.places k 0 == get_or s.places c.args.i 0) in
    ap (λ (t : List ℕ). has_id t c.args.i) c.nodes_at.ensures ∙ has-filter test g.row.N c.args.i (member-lt g.row.N s.awake c.args.i c.self.invariant.ids on)
    ∙ and_from (has_id s.awake c.args.i) _ on (eq-eqb _ _ refl)
