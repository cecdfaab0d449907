-- Whether a JSON value is that of an accepted scenario, and how it is refused otherwise.
use Rattle.std.specs.Prelude.{◌≡◌, ℕ, Option, None, Some}
use Rattle.serde_json.specs.Data.{Data}
use Rattle.scenario.specs.Parts.{ScenarioParts}
use Rattle.scenario.specs.Rules.{refusal}
use Rattle.scenario.specs.Scenario.{ScenarioView}
use Rattle.scenario.specs.Given.{scenario_of}
use Rattle.scenario_reading.specs.Keys.{parts_read}

-- the refusal of a JSON value: rule 1 where it has no parts, and then the others
abbrev pub refusal_on : ℕ → Option ScenarioParts → Option (ℕ × ℕ)
refusal_on capacity None = Some (1, 0)
refusal_on capacity (Some p) = refusal capacity p

abbrev pub value_refusal : ℕ → Data → Option (ℕ × ℕ)
value_refusal capacity d = refusal_on capacity (parts_read d)

-- a JSON value of a scenario that no rule refuses, and what it says
pub record IsAcceptedValue {capacity : ℕ} (d : Data) (s : ScenarioView capacity) : Type 0 where
  pub parts : ScenarioParts
  pub reads : parts_read d ≡ Some parts
  pub unrefused : refusal capacity parts ≡ None
  pub says : s ≡ scenario_of capacity parts
