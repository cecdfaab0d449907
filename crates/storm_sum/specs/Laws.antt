-- What is promised of the periods of each storm, and what its summary says.
use Rattle.std.specs.Prelude.{ℕ, ◌≡◌, ◌<◌, ◌≤◌, true, None, slice_index}
use Rattle.node_grid.specs.NodeSet.{has_id}
use Rattle.protocol.specs.Safe.{Claim, IsInnocent}
use Rattle.safety.specs.Lifetime.{standing_of}
use Rattle.scenario.specs.Given.{scenario_of}
use Rattle.scenario.specs.Rules.{refusal}
use Rattle.scenario.specs.Scenario.{ScenarioView, system_of}
use Rattle.cluster_periods.specs.Laws.{Promises, run_of, classes_of}
use Rattle.run_text.specs.StormText.{StormView}
use Rattle.storm.specs.Laws.{HasOneFaulty}
use Rattle.storm.specs.Parts.{storm_parts}
use Rattle.storm_sum.specs.Summary.{summary_of}

-- a number's storm
abbrev pub storm_scenario : ℕ → ScenarioView 8
storm_scenario seed = scenario_of 8 (storm_parts seed)

-- no rule refuses it; and each of its periods has at most one faulty node, which is one of 5 to 7, is claimed, keeps all that is promised of a
-- claimed period, and begins with nodes 0 to 4 as members with count 0
pub record Withstands (seed : ℕ) : Type 0 where
  pub unrefused : refusal 8 (storm_parts seed) ≡ None
  pub one_faulty : (p : ℕ) → HasOneFaulty (classes_of (storm_scenario seed) p)
  pub claimed : (p : ℕ) → Claim (run_of (storm_scenario seed)) (classes_of (storm_scenario seed)) p
  pub promised : (p : ℕ) → Promises (storm_scenario seed) p
  pub spared : (p j : ℕ) → j < 5 → IsInnocent (standing_of (system_of (storm_scenario seed)) p) j

abbrev pub WithstandingLaw : Type 0
WithstandingLaw = (seed : ℕ) → Withstands seed

-- the summary of a number's storm
abbrev pub storm_summary : ℕ → StormView
storm_summary seed = summary_of seed (storm_scenario seed)

-- all of 1024 periods are claimed, of at most 448 lines and 64 restarts, and nodes 0 to 4 are members with count 0 in the end
pub record IsStormSummary (s : StormView) : Type 0 where
  pub periods : s.periods ≡ 1024
  pub claimed : s.claimed ≡ 1024
  pub lines : s.lines ≤ 448
  pub restarts : s.restarts ≡ 64
  pub nodes : s.nodes ≡ 8
  pub members : (j : ℕ) → j < 5 → has_id s.members j ≡ true
  pub counts : (j : ℕ) → j < 5 → slice_index s.counts j ≡ 0

abbrev pub SummaryLaw : Type 0
SummaryLaw = (seed : ℕ) → IsStormSummary (storm_summary seed)
