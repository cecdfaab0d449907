use Rattle.std.proofs.Common.{List, Option, subst}
use Rattle.agreed_state.specs.Agreed.{AgreedView}
use Rattle.shared_states.specs.Sharing.{IsOne}
use Rattle.shared_states.proofs.Views.{one}
use Rattle.shared_states.proofs.states.SharedStates.is_one.Goals as goal

pub returns : goal.returns
returns g c = λ yes'.
    let s = c.self.inside in
    let ok = c.self.invariant in
    subst (λ (v : List (Option AgreedView)). IsOne v) c.self.view_is (one g.row.N s.awake s.places s.states.items ok.ids ok.room ok.placed (ok.at_one yes'))
