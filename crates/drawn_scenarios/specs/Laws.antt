-- What holds of each drawn scenario.
use Rattle.std.specs.Prelude.{ℕ, ◌≡◌, ◌≤◌, None}
use Rattle.node_grid.specs.Capacity.{IsCapacity}
use Rattle.scenario.specs.Rules.{refusal}
use Rattle.scenario_versions.specs.Versions.{IsOfVersion}
use Rattle.drawn_scenarios.specs.declared.choices.Choices.{Choices}
use Rattle.drawn_scenarios.specs.Choices.{AreChoices}
use Rattle.drawn_scenarios.specs.Drawn.{drawn_parts}

-- no rule refuses it where its nodes have room
abbrev pub UnrefusedLaw : Type 0
UnrefusedLaw = (c : Choices) (seed index capacity : ℕ) → AreChoices c → IsCapacity capacity → c.nodes ≤ capacity → refusal capacity (drawn_parts c seed index) ≡ None

-- its parts are of their version
abbrev pub VersionLaw : Type 0
VersionLaw = (c : Choices) (seed index : ℕ) → IsOfVersion (drawn_parts c seed index)
