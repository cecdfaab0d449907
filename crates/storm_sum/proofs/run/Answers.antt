use Rattle.std.proofs.Common.{length, ap, ◌∙◌, refl}
use Rattle.fault_classes.specs.Plan.{Plan}
use Rattle.agreed_state.specs.declared.config.Config.{Config}
use Rattle.storm_sum.proofs.Summing.{all_summed}
use Rattle.storm_sum.proofs.run.Goals as goal

pub returns : goal.returns
returns c =
    all_summed c.args.seed c.args.scenario.now c.periods.result c.line_count.result c.restart_count.result c.config-config.result.now.nodes c.args.scenario.now.periods c.in_ok-sums.sums
    c.periods.ensures.periods
    (c.line_count.ensures.count ∙ ap (λ (plan : Plan). length plan.lines) c.plan-plan.ensures.plan)
    (c.restart_count.ensures ∙ ap (λ (plan : Plan). length plan.restarts) c.plan-plan.ensures.plan)
    (ap (λ (config : Config 8). config.nodes) c.config-config.ensures.config)
    refl c.periods.ensures.scenario.some_periods c.in_ok-sums.ensures
