use Rattle.std.proofs.Common.{List, Option, sym, subst, ◌∙◌, eqb-true}
use Rattle.node_grid.specs.SetFacts.{member-lt}
use Rattle.agreed_state.specs.Agreed.{AgreedView}
use Rattle.shared_states.specs.Sharing.{IsShared}
use Rattle.shared_states.proofs.Views.{shared}
use Rattle.shared_states.proofs.states.SharedStates.is_shared.Goals as goal

pub bounds-self-inside-i : goal.bounds-self-inside-i
bounds-self-inside-i g c = member-lt g.row.N c.self.inside.awake c.args.i c.self.invariant.ids (sym c.has.ensures ∙ c.if-not-has.false)

pub bounds-self-inside-j : goal.bounds-self-inside-j
bounds-self-inside-j g c = member-lt g.row.N c.self.inside.awake c.args.j c.self.invariant.ids (sym c.has-2.ensures ∙ c.if-not-has-2.false)

pub returns : goal.returns
returns g c = λ same.
    let s = c.self.inside in
    let ok = c.self.invariant in
    subst (λ (v : List (Option AgreedView)). IsShared v c.args.i c.args.j) c.self.view_is
    (shared g.row.N s.awake s.places s.states.items ok.ids ok.room ok.placed c.args.i c.args.j (sym c.has.ensures ∙ c.if-not-has.false) (sym c.has-2.ensures ∙ c.if-not-has-2.false) (eqb-true _ _ same))
