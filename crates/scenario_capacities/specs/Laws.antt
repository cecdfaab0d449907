-- One scenario, with room for c nodes and for k more.
use Rattle.std.specs.Prelude.{◌≡◌, ℕ, ◌≤◌, ◌+◌, None}
use Rattle.std.specs.Option.{option_map}
use Rattle.node_grid.specs.Capacity.{IsCapacity}
use Rattle.scenario.specs.Parts.{ScenarioParts}
use Rattle.scenario.specs.Numbers.{natural}
use Rattle.scenario.specs.Given.{config_of, plan_in, scenario_of}
use Rattle.scenario.specs.Scenario.{inputs_of, system_of, IsScenario}
use Rattle.scenario.specs.Rules.{refusal}
use Rattle.two_capacities.specs.Wider.{wide_config, wide_clock, system_over}

-- parts of at most 8 nodes are refused by the same rule at the same place
abbrev pub SameRefusalLaw : Type 0
SameRefusalLaw = (p : ScenarioParts) → natural p.nodes ≤ 8 → refusal 8 p ≡ refusal 16 p

-- what the parts of a scenario say: a system and a plan of clocks with further places
pub record SaysAlike (c k : ℕ) (p : ScenarioParts) : Type 0 where
  pub fits : natural p.nodes ≤ c
  pub system : system_of (scenario_of (c + k) p) ≡ system_over (wide_config k (config_of c p)) (plan_in p) (inputs_of (scenario_of c p))
  pub clock : (scenario_of (c + k) p).clock ≡ option_map (wide_clock k) (scenario_of c p).clock

abbrev pub SaysAlikeLaw : Type 0
SaysAlikeLaw = (c k : ℕ) (p : ScenarioParts) → refusal c p ≡ None → SaysAlike c k p

-- an accepted scenario stays one, where types may be laid out for so many nodes
abbrev pub StaysAcceptedLaw : Type 0
StaysAcceptedLaw = (c k : ℕ) (p : ScenarioParts) → IsCapacity (c + k) → refusal c p ≡ None → IsScenario (scenario_of c p) → IsScenario (scenario_of (c + k) p)
