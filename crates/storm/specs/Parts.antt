-- A storm as the parts of a scenario.
use Rattle.std.specs.Prelude.{ℕ, pos, List, [], ◌∷◌, map, None, Some}
use Rattle.hex.specs.Hex.{encode_lower}
use Rattle.fault_classes.specs.declared.line.Restart.{Restart}
use Rattle.fault_classes.specs.Change.{Change}
use Rattle.fault_classes.specs.Change.Change.{Drop, Cut, Twice, Time, Set, Raw}
use Rattle.fault_classes.specs.Line.{Line}
use Rattle.scenario.specs.Parts.{Numbers, EffectParts, FaultParts, RestartParts, PolicyParts, ChannelParts, TaskParts, ScenarioParts}
use Rattle.scenario.specs.Parts.Numbers.{these}
use Rattle.scenario.specs.Parts.EffectParts.{drop, twice, shortened, time, set, raw}
use Rattle.scenario.specs.Parts.ChannelParts.{state, sensor}
use Rattle.storm.specs.declared.spell.Spell.{Spell}
use Rattle.storm.specs.Storm.{Block, storm, lines_of, restarts_of}

-- ---- a fault line as parts, with its bytes in hexadecimal

abbrev pub numbers_of : List ℕ → Numbers
numbers_of xs = these (map pos xs)

abbrev pub effect_of : Change → EffectParts
effect_of Drop = drop
effect_of (Cut k) = shortened (pos k)
effect_of Twice = twice
effect_of (Time t) = time (pos t)
effect_of (Set at bytes) = set (pos at) (encode_lower bytes)
effect_of (Raw bytes) = raw (encode_lower bytes)

-- a line of a spell, from the parts of its fields
abbrev pub fault_by : Spell → Numbers → Numbers → EffectParts → FaultParts
fault_by s to slots effect = record { from = pos s.node; to = to; periods = pos s.first ∷ pos s.last ∷ []; slots = slots; effect = effect }

abbrev pub fault_of : Line → FaultParts
fault_of l = record { from = pos l.from; to = numbers_of l.to; periods = pos l.first ∷ pos l.last ∷ []; slots = numbers_of l.slots; effect = effect_of l.change }

abbrev pub restart_parts : Restart → RestartParts
restart_parts r = record { node = pos r.node; period = pos r.period }

-- ---- what is the same in each storm

abbrev pub storm_policy : PolicyParts
storm_policy = record {
  weights = map pos (5 ∷ 5 ∷ 5 ∷ 1 ∷ 5 ∷ 5 ∷ 5 ∷ 5 ∷ []);
  exclude = pos 20;
  readmit = pos 4;
  credit = pos 1;
  streak = pos 2;
  cap = pos 40;
  retire = pos 0;
}

abbrev pub storm_channels : List ChannelParts
storm_channels =
    state (pos 10) (map pos (1000 ∷ 1002 ∷ 1004 ∷ 1001 ∷ 1003 ∷ 1005 ∷ 1002 ∷ 1000 ∷ [])) (pos 5)
    ∷ sensor (pos 6) None (map pos (200 ∷ 202 ∷ 201 ∷ 203 ∷ 204 ∷ 200 ∷ 202 ∷ 201 ∷ []) ∷ map pos (210 ∷ 211 ∷ 212 ∷ 210 ∷ 213 ∷ 214 ∷ 211 ∷ 212 ∷ []) ∷ [])
    ∷ sensor (pos 2) (Some (pos 5)) (map pos (7 ∷ 8 ∷ 7 ∷ 8 ∷ 7 ∷ 8 ∷ 7 ∷ 8 ∷ []) ∷ [])
    ∷ []

-- after these tasks, on these nodes, with need, min, max and the run time on each node
abbrev pub task_parts : List ℕ → List ℕ → ℕ → ℕ → ℕ → List ℕ → TaskParts
task_parts after nodes need least most run = record { after = map pos after; nodes = map pos nodes; need = pos need; min = pos least; max = pos most; run = map pos run }

abbrev pub storm_tasks : List TaskParts
storm_tasks =
    task_parts [] (0 ∷ 1 ∷ 2 ∷ []) 2 1 3 (2 ∷ 2 ∷ 3 ∷ [])
    ∷ task_parts [] (3 ∷ 4 ∷ 5 ∷ []) 2 1 2 (1 ∷ 1 ∷ 2 ∷ [])
    ∷ task_parts (0 ∷ []) (0 ∷ 1 ∷ []) 1 1 2 (1 ∷ 2 ∷ [])
    ∷ task_parts (0 ∷ 1 ∷ []) (2 ∷ 3 ∷ []) 1 1 3 (1 ∷ 2 ∷ [])
    ∷ task_parts (2 ∷ []) (4 ∷ []) 1 1 1 (1 ∷ [])
    ∷ task_parts (3 ∷ 4 ∷ []) (5 ∷ []) 1 1 2 (1 ∷ [])
    ∷ []

-- ---- all of it

abbrev pub parts_of : List Block → ScenarioParts
parts_of bs = record {
  version = pos 1;
  nodes = pos 8;
  m = pos 2;
  periods = pos 1024;
  policy = storm_policy;
  frame = Some (pos 16);
  order = pos 0;
  channels = storm_channels;
  tasks = storm_tasks;
  faults = map fault_of (lines_of bs);
  restarts = map restart_parts (restarts_of bs);
  clock = None;
}

-- the parts of a number's storm
abbrev pub storm_parts : ℕ → ScenarioParts
storm_parts seed = parts_of (storm seed)
