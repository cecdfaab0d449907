use Rattle.std.proofs.Common.{ap}
use Rattle.node_steps.specs.Parts.{NodeView}
use Rattle.node_core.proofs.controller.Controller.me.Goals as goal

pub returns : goal.returns
returns g c = ap (λ (v : NodeView g.row.N). v.phase.me) c.self.view_is
