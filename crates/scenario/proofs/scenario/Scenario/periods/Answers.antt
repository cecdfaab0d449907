use Rattle.std.proofs.Common.{ap, subst}
use Rattle.scenario.specs.Scenario.{ScenarioView, IsScenario}
use Rattle.scenario.proofs.scenario.Scenario.periods.Goals as goal

pub returns-clause-periods : goal.returns-clause-periods
returns-clause-periods g c = ap (λ (s : ScenarioView g.row.N). s.periods) c.self.view_is

pub returns-clause-scenario : goal.returns-clause-scenario
returns-clause-scenario g c = subst (λ (s : ScenarioView g.row.N). IsScenario s) c.self.view_is c.self.invariant.scenario
