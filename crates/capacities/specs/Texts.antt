-- The text of a scenario's run, by what is shown of each period.
use Rattle.std.specs.Prelude.{◌≡◌, ℕ, true, false, List, ◌++◌}
use Rattle.std.specs.List.{flat_map}
use Rattle.node_grid.specs.NodeSet.{ids_below}
use Rattle.fault_classes.specs.Plan.{Plan}
use Rattle.scenario.specs.Scenario.{ScenarioView, system_of}
use Rattle.cluster_periods.specs.Record.{PeriodView, period_record}
use Rattle.run_text.specs.PeriodText.{head_text, end_text}
use Rattle.run_text.specs.TraceText.{period_text}

-- what is shown of a period, by the fault plan
abbrev pub Shows : Type 0
Shows = Plan → PeriodView → List ℕ

-- all lines of it, all lines with its frames, and its first line alone
abbrev pub replayed : Shows
replayed plan t = period_text plan false t

abbrev pub traced : Shows
traced plan t = period_text plan true t

abbrev pub checked : Shows
checked plan t = head_text t

-- the text of a run: its periods in order, and the end
abbrev pub text_of : {capacity : ℕ} → Shows → ScenarioView capacity → List ℕ
text_of shown sc = flat_map (λ p. shown sc.plan (period_record (system_of sc) sc.clock p)) (ids_below sc.periods) ++ end_text sc.periods

-- two scenarios, over any capacities, whose runs have the same texts
pub record HaveSameTexts {N M : ℕ} (a : ScenarioView N) (b : ScenarioView M) : Type 0 where
  pub replay : text_of replayed a ≡ text_of replayed b
  pub trace : text_of traced a ≡ text_of traced b
  pub check : text_of checked a ≡ text_of checked b
