use Rattle.std.proofs.Common.{ap, sym, ◌∙◌, lit<}
use Rattle.node_grid.specs.CapacityLaws.{capacity-le}
use Rattle.node_steps.specs.Parts.{NodeView}
use Rattle.agreed_state.specs.Agreed.{AgreedView}
use Rattle.protocol.specs.Run.{members_in}
use Rattle.node_core.proofs.controller.Controller.members.Goals as goal

pub returns-in-None : goal.returns-in-None
returns-in-None g c = c.empty.ensures ∙ sym (ap members_in c.in-None.is) ∙ ap (λ (v : NodeView g.row.N). members_in v.phase.before) c.self.view_is

pub returns-in-Some : goal.returns-in-Some
returns-in-Some g c = ap (λ (a : AgreedView). a.standing.members) c.agreed.view_is ∙ sym (ap members_in c.in-Some.is) ∙ ap (λ (v : NodeView g.row.N). members_in v.phase.before) c.self.view_is

pub empty-requires : goal.empty-requires
empty-requires g c = (lit< tt, capacity-le g.row.N g.bound-1.eight_or_sixteen)
