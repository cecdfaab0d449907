-- What holds of parts that the rules accept.
use Rattle.std.specs.Prelude.{◌≡◌, ℕ, None}
use Rattle.node_grid.specs.Capacity.{IsCapacity}
use Rattle.scenario.specs.Parts.{ScenarioParts}
use Rattle.scenario.specs.Given.{scenario_of}
use Rattle.scenario.specs.Rules.{refusal}
use Rattle.scenario.specs.Scenario.{IsScenario}

-- what no rule refuses says a scenario, whose system is one of which the theorem speaks
abbrev pub AcceptedLaw : Type 0
AcceptedLaw = (capacity : ℕ) (p : ScenarioParts) → IsCapacity capacity → refusal capacity p ≡ None → IsScenario (scenario_of capacity p)
