use Rattle.std.proofs.Common.{List, subst, ◌∙◌}
use Rattle.agreed_state.specs.Agreed.{AgreedView}
use Rattle.shared_states.specs.Places.{LeadAlike}
use Rattle.shared_states.proofs.Views.{led}
use Rattle.shared_states.proofs.states.SharedStates.join.Goals as goal

pub returns : goal.returns
returns g c =
    let s = c.self.inside in
    led g.row.N s.awake s.places c.join.new.places s.states.items
    (subst (λ (xs : List AgreedView). LeadAlike xs s.awake s.places c.join.new.places) c.as_slice.ensures.value c.join.ensures.alike) ∙ c.self.view_is
