use Rattle.std.proofs.Common.{ap, inl, inr, lit<, ◌∙◌}
use Rattle.agreed_state.specs.declared.config.Config.{Config}
use Rattle.live_node.specs.Live.{LiveView}
use Rattle.live_node.proofs.Deciding.{is_other_then, is_other_else}
use Rattle.live_node.proofs.event_node.EventNode.is_other.Goals as goal

pub config-requires : goal.config-requires
config-requires g c = elim g.bound-1.eight_or_sixteen [ inl e ↦ rw e (lit< tt, lit< tt) | inr e ↦ rw e (lit< tt, lit< tt) ]

pub returns-then-node-config : goal.returns-then-node-config
returns-then-node-config g c =
    is_other_then c.args.self.now c.args.node c.config.result.now.nodes c.self.inside.id
    (ap (λ (y : Config g.row.N). y.nodes) c.config.ensures.config ∙ ap (λ (v : LiveView g.row.N). v.scenario.config.nodes) c.self.view_is)
    (ap (λ (v : LiveView g.row.N). v.id) c.self.view_is) c.if-node-config.true

pub returns-else-node-config : goal.returns-else-node-config
returns-else-node-config g c =
    is_other_else c.args.self.now c.args.node c.config.result.now.nodes c.self.inside.id
    (ap (λ (y : Config g.row.N). y.nodes) c.config.ensures.config ∙ ap (λ (v : LiveView g.row.N). v.scenario.config.nodes) c.self.view_is)
    (ap (λ (v : LiveView g.row.N). v.id) c.self.view_is) c.if-node-config.false
