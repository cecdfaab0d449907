-- The parts of the scenario of an index.
use Rattle.std.specs.Prelude.{ℕ, pos, List, option_map}
use Rattle.std.specs.List.{flat_map}
use Rattle.scenario.specs.Parts.{ScenarioParts}
use Rattle.drawn_scenarios.specs.declared.choices.Choices.{Choices}
use Rattle.drawn_scenarios.specs.declared.bout.Bout.{Bout}
use Rattle.drawn_scenarios.specs.Cluster.{version_of, policy, channels_of, tasks_of, frame_of, clock_of}
use Rattle.drawn_scenarios.specs.Bouts.{drawn_bouts}
use Rattle.drawn_scenarios.specs.Lines.{lines_of, lies_of, restarts_of}

abbrev pub parts_of : Choices → List Bout → ScenarioParts
parts_of c bs = record {
  version = pos (version_of c);
  nodes = pos c.nodes;
  m = pos c.m;
  periods = pos c.periods;
  policy = policy c;
  frame = frame_of c;
  order = pos 0;
  channels = channels_of c;
  tasks = tasks_of c;
  faults = flat_map (lines_of c) bs;
  restarts = restarts_of c bs;
  clock = option_map (clock_of c.nodes (flat_map (lies_of c) bs)) c.clock;
}

-- the parts of a seed's scenario of this index
abbrev pub drawn_parts : Choices → ℕ → ℕ → ScenarioParts
drawn_parts c seed index = parts_of c (drawn_bouts c seed index)
