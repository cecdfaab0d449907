-- The sizes of a scenario's fault plan, as it is lent, are the scenario's.
use Rattle.std.proofs.Common.{ℕ, ◌≡◌, ap, ◌∙◌}
use Rattle.fault_classes.specs.Plan.{Plan}
use Rattle.scenario.specs.Scenario.{ScenarioView, IsScenario}

module _ {n : ℕ} {sc : ScenarioView n} {plan : Plan} (lent : plan ≡ sc.plan) (is : IsScenario sc) where
  pub planned_periods : plan.periods ≡ sc.periods
  planned_periods = ap (λ (q : Plan). q.periods) lent ∙ is.plan_periods

  pub planned_rounds : plan.rounds ≡ sc.config.m
  planned_rounds = ap (λ (q : Plan). q.rounds) lent ∙ is.system.plan_rounds

  pub planned_nodes : plan.nodes ≡ sc.config.nodes
  planned_nodes = ap (λ (q : Plan). q.nodes) lent ∙ is.system.plan_nodes
