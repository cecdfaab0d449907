use Rattle.std.proofs.Common.{ap, ◌∙◌}
use Rattle.agreed_state.specs.Adoption.{adopted}
use Rattle.protocol.specs.View as view
use Rattle.heard_states.proofs.sending.Sending.adopted.Goals as goal

pub returns-clause-adopted : goal.returns-clause-adopted
unfolding view.adopted_by
returns-clause-adopted g c = c.adopt.ensures.adopted ∙ ap (adopted g.row.N c.args.self.now.slot.config.now) c.bodies_told.ensures
