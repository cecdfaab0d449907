-- What the clocks of a period are computed from: those before it, and what each node recorded of it.
use Rattle.std.specs.Prelude.{◌≡◌, ℕ, ℤ, pos, false, List, map, length, Option, None, Some, option_map, slice_get}
use Rattle.node_grid.specs.NodeSet.{ids_below, has_id}
use Rattle.clock_skew.specs.Clock.{ClockView}
use Rattle.clock_skew.specs.Reading.{read_by}
use Rattle.protocol.specs.Clocks.{corrects}
use Rattle.node_steps.specs.Outcome.{Outcome}
use Rattle.scenario.specs.Scenario.{ScenarioView, system_of}
use Rattle.cluster_periods.specs.Record.{ClockShown, offsets_in}

-- by how much node i corrects its clock, by these readings and what it recorded; 0 without a record
abbrev pub corrects_by : ℕ → ℕ → List ℤ → Option Outcome → ℤ
corrects_by m i readings None = pos 0
corrects_by m i readings (Some o) = corrects m i readings o.members o.sync o.mode

-- by the records of all nodes in use
abbrev pub correction_by : ℕ → ClockView → ℕ → List ℤ → ℕ → List Outcome → ℕ → ℤ
correction_by capacity c m offset p records i = corrects_by m i (map (read_by c (length records) offset p i) (ids_below capacity)) (slice_get records i)

-- no node recorded that its own frame was good
abbrev pub AreOthers : List Outcome → Type 0
AreOthers records = (i : ℕ) (o : Outcome) → slice_get records i ≡ Some o → has_id o.sync i ≡ false

-- ---- between periods

-- the offsets that a record keeps, where there are clocks
abbrev pub offsets_kept : Option ClockShown → Option (List ℤ)
offsets_kept = option_map (λ r. r.offset)

-- the offsets before period p, where the scenario has clocks
abbrev pub offsets_before : {N : ℕ} → ScenarioView N → ℕ → Option (List ℤ)
offsets_before sc p = option_map (λ c. offsets_in (system_of sc) c p) sc.clock
