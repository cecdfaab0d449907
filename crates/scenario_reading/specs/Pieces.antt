-- What stands at the keys of a scenario as the code reads it: first the sizes, and then the other parts, each by itself.
use Rattle.std.specs.Prelude.{ℤ, pos, List, [], Option, Some, None, option_map, codes}
use Rattle.serde_json.specs.Data.{Data}
use Rattle.json_parts.specs.Reading.{whole, list_of, required, optional}
use Rattle.scenario.specs.Parts.{FaultParts, RestartParts, PolicyParts, ChannelParts, TaskParts, ClockParts, SizeParts, ScenarioParts}
use Rattle.scenario_reading.specs.Keys.{◌>>=◌, policy_at, channel_at, task_key, fault_at, restart_at, clock_at}

unfoldable pub size_fields : Data → Option SizeParts
size_fields d = do
  nodes ← required (codes "nodes") whole d
  m ← required (codes "m") whole d
  periods ← required (codes "periods") whole d
  frame ← optional (codes "frame") None (λ x. option_map Some (whole x)) d
  order ← optional (codes "order") (pos 0) whole d
  Some (record { nodes = nodes; m = m; periods = periods; frame = frame; order = order })

-- ---- the parts at the keys of the whole

unfoldable pub policy_in : ℤ → Data → Option PolicyParts
policy_in version d = required (codes "policy") (policy_at version) d

unfoldable pub channels_in : ℤ → Data → Option (List ChannelParts)
channels_in version d = optional (codes "channels") [] (list_of (channel_at version)) d

unfoldable pub tasks_in : Data → Option (List TaskParts)
tasks_in d = optional (codes "tasks") [] (list_of task_key) d

unfoldable pub faults_in : Data → Option (List FaultParts)
faults_in d = optional (codes "faults") [] (list_of fault_at) d

unfoldable pub restarts_in : Data → Option (List RestartParts)
restarts_in d = optional (codes "restarts") [] (list_of restart_at) d

unfoldable pub clock_key : Data → Option (Option ClockParts)
clock_key d = optional (codes "clock") None (λ x. option_map Some (clock_at x)) d

-- the parts besides these sizes
unfoldable pub other_fields : ℤ → Data → SizeParts → Option ScenarioParts
other_fields version d sizes = do
  policy ← policy_in version d
  channels ← channels_in version d
  tasks ← tasks_in d
  faults ← faults_in d
  restarts ← restarts_in d
  clock ← clock_key d
  Some (record {
    version = version;
    nodes = sizes.nodes;
    m = sizes.m;
    periods = sizes.periods;
    policy = policy;
    frame = sizes.frame;
    order = sizes.order;
    channels = channels;
    tasks = tasks;
    faults = faults;
    restarts = restarts;
    clock = clock;
  })

abbrev pub pieces_in : ℤ → Data → Option ScenarioParts
pieces_in version d = size_fields d >>= other_fields version d
