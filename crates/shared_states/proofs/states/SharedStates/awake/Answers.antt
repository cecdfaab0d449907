use Rattle.std.proofs.Common.{List, Option, ap, ◌∙◌}
use Rattle.std.specs.Prelude.{is_some}
use Rattle.node_grid.specs.NodeSet.{ids_where}
use Rattle.agreed_state.specs.Agreed.{AgreedView}
use Rattle.shared_states.specs.Sharing.{state_at}
use Rattle.shared_states.proofs.Views.{who_has}
use Rattle.shared_states.proofs.states.SharedStates.awake.Goals as goal

pub returns-clause-nodes : goal.returns-clause-nodes
returns-clause-nodes g c =
    let s = c.self.inside in
    let ok = c.self.invariant in
    who_has g.row.N s.awake s.places s.states.items ok.ids ok.room ok.placed ∙ ap (λ (v : List (Option AgreedView)). ids_where (λ i. is_some (state_at v i)) g.row.N) c.self.view_is
