use Rattle.std.proofs.Common.{sym, subst}
use Rattle.scenario.specs.Scenario.{ScenarioView, IsScenario}
use Rattle.scenario_reading.proofs.laws.accepted_values.Goals as goal

pub returns : goal.returns
returns c = λ capacity d s room h. subst (λ (x : ScenarioView capacity). IsScenario x) (sym h.says) (c.accepted.ensures capacity h.parts room h.unrefused)
