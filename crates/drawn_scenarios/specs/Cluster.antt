-- The cluster that faults are drawn onto, which its options alone decide.
use Rattle.std.specs.Prelude.{ℕ, ◌+◌, ◌*◌, ◌/◌, min, ℤ, pos, ◌||◌, nat_lt, is_some, List, [], ◌∷◌, map, replicate, Option, None, Some, if◌then◌else◌}
use Rattle.node_grid.specs.NodeSet.{ids_below}
use Rattle.scenario.specs.Parts.{PolicyParts, ChannelParts, TaskParts, LieParts, ClockParts}
use Rattle.scenario.specs.Parts.ChannelParts.{sensor, copy}
use Rattle.drawn_scenarios.specs.declared.choices.ClockChoices.{ClockChoices}
use Rattle.drawn_scenarios.specs.declared.choices.Choices.{Choices}
use Rattle.drawn_scenarios.specs.declared.series.Series.TheVariants.{Readings, Results, Starts, Drifts, Errors}
use Rattle.drawn_scenarios.specs.Series.{row, three_rows}

-- version 2 where version 1 has no room, no clock and no copies
abbrev pub version_of : Choices → ℕ
version_of c = if nat_lt 8 c.nodes || (nat_lt 2 c.m || (c.copies || is_some c.clock)) then 2 else 1

-- the second bad period excludes
abbrev pub policy : Choices → PolicyParts
policy c = record {
  weights = replicate (8 * version_of c) (pos 5);
  exclude = pos 10;
  readmit = pos 4;
  credit = pos 5;
  streak = pos 1;
  cap = pos 20;
  retire = pos 0;
}

-- a sensor that all nodes read nearly alike
abbrev pub sensor_of : Choices → ChannelParts
sensor_of c = sensor (pos 4) None (three_rows Readings c.nodes)

-- what the copies of task 0 come to
abbrev pub copies_of : Choices → ChannelParts
copies_of c = copy (pos 4) (pos 0) (pos 1) (row Results c.nodes 0 ∷ [])

abbrev pub channels_of : Choices → List ChannelParts
channels_of c = sensor_of c ∷ (if c.copies then copies_of c ∷ [] else [])

-- how many nodes run a copy of the task
abbrev pub copy_count : Choices → ℕ
copy_count c = min c.nodes 5

-- one period on each of these nodes, of which more than half finish it
abbrev pub task_of : Choices → TaskParts
task_of c = record {
  after = [];
  nodes = map pos (ids_below (copy_count c));
  need = pos (copy_count c / 2 + 1);
  min = pos 1;
  max = pos 1;
  run = replicate (copy_count c) (pos 1);
}

abbrev pub tasks_of : Choices → List TaskParts
tasks_of c = if c.copies then task_of c ∷ [] else []

abbrev pub frame_of : Choices → Option ℤ
frame_of c = if c.copies then Some (pos 1) else None

abbrev pub clock_of : ℕ → List LieParts → ClockChoices → ClockParts
clock_of nodes lies k = record {
  epsilon = pos k.epsilon;
  drift = pos k.drift;
  start = row (Starts k.start) nodes 0;
  drifts = three_rows (Drifts k.drift) nodes;
  errors = three_rows (Errors k.epsilon) nodes;
  lies = lies;
}
