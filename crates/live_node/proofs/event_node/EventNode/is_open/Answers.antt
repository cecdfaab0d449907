use Rattle.std.proofs.Common.{ap, ◌∙◌}
use Rattle.std.specs.Prelude.{is_some}
use Rattle.live_node.specs.Live.{LiveView, is_open}
use Rattle.live_node.proofs.Keeping.{open_some}
use Rattle.live_node.proofs.event_node.EventNode.is_open.Goals as goal

pub returns : goal.returns
returns g c = c.is_some.ensures ∙ ap is_some c.self.invariant.slot_is ∙ open_some c.self.inside.node ∙ ap (λ (v : LiveView g.row.N). is_open v) c.self.view_is
