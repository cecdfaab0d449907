use Rattle.std.proofs.Common.{ap}
use Rattle.live_node.specs.Live.{LiveView}
use Rattle.live_node.proofs.event_node.EventNode.periods_run.Goals as goal

pub returns : goal.returns
returns g c = ap (λ (x : LiveView g.row.N). x.run) c.self.view_is
