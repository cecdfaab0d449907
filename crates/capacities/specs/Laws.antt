-- One scenario, read with room for 8 nodes and with room for 16.
use Rattle.std.specs.Prelude.{◌≤◌}
use Rattle.serde_json.specs.Data.{Data}
use Rattle.scenario.specs.Scenario.{ScenarioView}
use Rattle.scenario_reading.specs.Verdict.{IsAcceptedValue}
use Rattle.capacities.specs.Texts.{HaveSameTexts}

-- what is accepted with room for 8 nodes is accepted with room for 16, and has the same texts
abbrev pub MoreRoomLaw : Type 0
MoreRoomLaw = (d : Data) (small : ScenarioView 8) → IsAcceptedValue d small → (large : ScenarioView 16) × IsAcceptedValue d large × HaveSameTexts small large

-- what is accepted with room for 16 nodes, and has at most 8, is accepted with room for 8, and has the same texts
abbrev pub LessRoomLaw : Type 0
LessRoomLaw = (d : Data) (large : ScenarioView 16) → IsAcceptedValue d large → large.config.nodes ≤ 8 → (small : ScenarioView 8) × IsAcceptedValue d small × HaveSameTexts small large
