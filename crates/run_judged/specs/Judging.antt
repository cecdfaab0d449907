-- What a judge keeps.
use Rattle.std.specs.Prelude.{ℕ, ◌≡◌, ◌<◌, ◌≤◌}
use Rattle.std.specs.List.{filter_map}
use Rattle.node_grid.specs.NodeSet.{ids_below, has_id}
use Rattle.scenario.specs.Scenario.{ScenarioView}
use Rattle.run_judged.specs.declared.judge.Judge.{Judge}
use Rattle.run_judged.specs.Illnesses.{sound_after, illnesses}
use Rattle.run_judged.specs.Rows.{seen_of, skew_at}
use Rattle.run_judged.specs.Sums.{AreSums}

-- a judge of the first periods of a scenario's run, as many as it says
pub record Judges {N : ℕ} (sc : ScenarioView N) (judge : Judge N) : Type 0 where
  pub in_run : judge.periods ≤ sc.periods
  pub sums : AreSums sc judge.periods judge.tally
  pub sound : (j : ℕ) → j < sc.config.nodes → has_id judge.illnesses.sound j ≡ sound_after (seen_of sc) judge.periods j
  pub illnesses : judge.illnesses.list.items ≡ illnesses (seen_of sc) sc.config.nodes judge.periods
  pub skews : judge.skews.items ≡ filter_map (skew_at sc) (ids_below judge.periods)
