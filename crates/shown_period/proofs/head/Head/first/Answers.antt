use Rattle.std.proofs.Common.{◌≡◌, true, length, refl, ap, ◌∙◌}
use Rattle.agreed_state.specs.declared.config.Config.{Config}
use Rattle.cluster_periods.specs.Record.{claimed_before}
use Rattle.protocol.specs.Run.{System}
use Rattle.scenario.specs.Scenario.{system_of}
use Rattle.shown_period.proofs.head.Head.first.Goals as goal

claimed_first : (sys : System) → true ≡ claimed_before sys 0
unfolding claimed_before
claimed_first sys = refl

pub returns : goal.returns
returns g c = record {
  shape = record {
    nodes = ap (λ (y : Config g.row.N). y.nodes) c.config-config.ensures.config;
    m = ap (λ (y : Config g.row.N). y.m) c.config-config.ensures.config;
    retire = ap (λ (y : Config g.row.N). y.policy.retire) c.config-config.ensures.config;
    tasks = c.len.ensures.count ∙ ap (λ (y : Config g.row.N). length y.graph.tasks) c.config-config.ensures.config;
  };
  claimed = claimed_first (system_of c.args.scenario.now);
  clocks = c.first_clocks.ensures;
}
