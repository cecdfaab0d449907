use Rattle.std.proofs.Common.{ap, subst}
use Rattle.scenario.specs.Scenario.{ScenarioView, IsScenario}
use Rattle.scenario.proofs.scenario.Scenario.order.Goals as goal

pub returns-clause-order : goal.returns-clause-order
returns-clause-order g c = ap (λ (s : ScenarioView g.row.N). s.order) c.self.view_is

pub returns-clause-scenario : goal.returns-clause-scenario
returns-clause-scenario g c = subst (λ (s : ScenarioView g.row.N). IsScenario s) c.self.view_is c.self.invariant.scenario
