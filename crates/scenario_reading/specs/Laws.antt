-- What holds of values that are accepted.
use Rattle.std.specs.Prelude.{ℕ}
use Rattle.serde_json.specs.Data.{Data}
use Rattle.node_grid.specs.Capacity.{IsCapacity}
use Rattle.scenario.specs.Scenario.{ScenarioView, IsScenario}
use Rattle.scenario_reading.specs.Verdict.{IsAcceptedValue}

-- what is accepted of a JSON value is a scenario
abbrev pub AcceptedValueLaw : Type 0
AcceptedValueLaw = (capacity : ℕ) (d : Data) (s : ScenarioView capacity) → IsCapacity capacity → IsAcceptedValue d s → IsScenario s
