-- The parts that are read back of the members of a scenario.
use Rattle.std.proofs.Common.{◌≡◌, ℤ, pos, Bool, true, false, [], Option, Some, None, refl}
use Rattle.std.specs.Prelude.{codes, option_map}
use Rattle.std.specs.Ordering.{int_eq}
use Rattle.serde_json.specs.Data.{Data, Members, no_members, object, put}
use Rattle.json_parts.specs.Reading.{whole, list_of, has_keys, required, optional, if_there}
use Rattle.scenario.specs.Parts.{ClockParts, ScenarioParts}
use Rattle.scenario_reading.specs.Keys.{policy_at, channel_at, task_key, fault_at, restart_at, clock_at, version_at, scenario_names, scenario_fields, parts_in, parts_read}
use Rattle.scenario_reading.proofs.Keys.{old_names, all_names, newer_names, older_names}
use Rattle.scenario_writing.specs.Members.{put_some}
use Rattle.scenario_versions.specs.Versions.{is_first}

-- what stands at each key of a value is read as the part of this name
record IsRead (p : ScenarioParts) (d : Data) : Type 0 where
  keys : has_keys (scenario_names p.version) d ≡ true
  version : version_at d ≡ Some p.version
  nodes : required (codes "nodes") whole d ≡ Some p.nodes
  m : required (codes "m") whole d ≡ Some p.m
  periods : required (codes "periods") whole d ≡ Some p.periods
  frame : optional (codes "frame") None (λ x. option_map Some (whole x)) d ≡ Some p.frame
  order : optional (codes "order") (pos 0) whole d ≡ Some p.order
  policy : required (codes "policy") (policy_at p.version) d ≡ Some p.policy
  channels : optional (codes "channels") [] (list_of (channel_at p.version)) d ≡ Some p.channels
  tasks : optional (codes "tasks") [] (list_of task_key) d ≡ Some p.tasks
  faults : optional (codes "faults") [] (list_of fault_at) d ≡ Some p.faults
  restarts : optional (codes "restarts") [] (list_of restart_at) d ≡ Some p.restarts
  clock : optional (codes "clock") None (λ x. option_map Some (clock_at x)) d ≡ Some p.clock

-- then the value is read as the parts
assembled : (p : ScenarioParts) (d : Data) → IsRead p d → parts_read d ≡ Some p
unfolding parts_in scenario_fields
assembled p d r =
    rw (r.version, r.keys, r.nodes, r.m, r.periods, r.frame, r.order, r.policy, r.channels, r.tasks, r.faults, r.restarts, r.clock) refl

-- a part that may be missing
maybe_read : {X : Type 0} (f : Data → Option X) (found : Option Data) (part : Option X) → option_map f found ≡ option_map Some part
    → if_there None (λ d. option_map Some (f d)) found ≡ Some part
maybe_read f None None e = refl
maybe_read f None (Some x) e = cc
maybe_read f (Some d) None e = cc
maybe_read f (Some d) (Some x) e = let same : f d ≡ Some x = cc in rw same refl

-- only later versions have clocks
is_later : (b : Bool) (clock : Data) (part : Option ClockParts) → option_map clock_at (Some clock) ≡ option_map Some part → (b ≡ true → part ≡ None) → b ≡ false
is_later true clock part e no_clock = let none : part ≡ None = no_clock refl in cc
is_later false clock part e no_clock = refl

-- keys of version 1 are known in each version
known : (version : ℤ) (d : Data) (b : Bool) → int_eq version (pos 1) ≡ b → has_keys old_names d ≡ true → has_keys all_names d ≡ true → has_keys (scenario_names version) d ≡ true
known version d true e old all = rw (older_names version e) old
known version d false e old all = rw (newer_names version e) all

-- the members that are always written
pub record Pieces : Type 0 where
  pub version : Data
  pub nodes : Data
  pub m : Data
  pub periods : Data
  pub policy : Data
  pub order : Data
  pub channels : Data
  pub tasks : Data
  pub faults : Data
  pub restarts : Data

abbrev pub members_of : Pieces → Members
members_of w =
    put (codes "restarts") w.restarts (put (codes "faults") w.faults (put (codes "tasks") w.tasks (put (codes "channels") w.channels (put (codes "order") w.order
    (put (codes "policy") w.policy (put (codes "periods") w.periods (put (codes "m") w.m (put (codes "nodes") w.nodes (put (codes "version") w.version no_members)))))))))

-- what each of them is read as
pub record AreRead (p : ScenarioParts) (w : Pieces) : Type 0 where
  pub version : whole w.version ≡ Some p.version
  pub nodes : whole w.nodes ≡ Some p.nodes
  pub m : whole w.m ≡ Some p.m
  pub periods : whole w.periods ≡ Some p.periods
  pub policy : policy_at p.version w.policy ≡ Some p.policy
  pub order : whole w.order ≡ Some p.order
  pub channels : list_of (channel_at p.version) w.channels ≡ Some p.channels
  pub tasks : list_of task_key w.tasks ≡ Some p.tasks
  pub faults : list_of fault_at w.faults ≡ Some p.faults
  pub restarts : list_of restart_at w.restarts ≡ Some p.restarts

-- with the two that may be missing
abbrev pub data_of : Pieces → Option Data → Option Data → Data
data_of w frame clock = object (put_some (codes "clock") clock (put_some (codes "frame") frame (members_of w)))

-- they are read back
pub read_back : (p : ScenarioParts) (w : Pieces) (frame clock : Option Data) → AreRead p w → option_map whole frame ≡ option_map Some p.frame
    → option_map clock_at clock ≡ option_map Some p.clock → (is_first p.version ≡ true → p.clock ≡ None) → parts_read (data_of w frame clock) ≡ Some p
read_back p w None None r frame clock no_clock =
    assembled p (data_of w None None) (record {
      keys = known p.version (data_of w None None) (is_first p.version) refl refl refl;
      version = r.version;
      nodes = r.nodes;
      m = r.m;
      periods = r.periods;
      frame = maybe_read whole None p.frame frame;
      order = r.order;
      policy = r.policy;
      channels = r.channels;
      tasks = r.tasks;
      faults = r.faults;
      restarts = r.restarts;
      clock = maybe_read clock_at None p.clock clock;
    })
read_back p w None (Some k) r frame clock no_clock =
    assembled p (data_of w None (Some k)) (record {
      keys = rw (newer_names p.version (is_later (is_first p.version) k p.clock clock no_clock)) refl;
      version = r.version;
      nodes = r.nodes;
      m = r.m;
      periods = r.periods;
      frame = maybe_read whole None p.frame frame;
      order = r.order;
      policy = r.policy;
      channels = r.channels;
      tasks = r.tasks;
      faults = r.faults;
      restarts = r.restarts;
      clock = maybe_read clock_at (Some k) p.clock clock;
    })
read_back p w (Some f) None r frame clock no_clock =
    assembled p (data_of w (Some f) None) (record {
      keys = known p.version (data_of w (Some f) None) (is_first p.version) refl refl refl;
      version = r.version;
      nodes = r.nodes;
      m = r.m;
      periods = r.periods;
      frame = maybe_read whole (Some f) p.frame frame;
      order = r.order;
      policy = r.policy;
      channels = r.channels;
      tasks = r.tasks;
      faults = r.faults;
      restarts = r.restarts;
      clock = maybe_read clock_at None p.clock clock;
    })
read_back p w (Some f) (Some k) r frame clock no_clock =
    assembled p (data_of w (Some f) (Some k)) (record {
      keys = rw (newer_names p.version (is_later (is_first p.version) k p.clock clock no_clock)) refl;
      version = r.version;
      nodes = r.nodes;
      m = r.m;
      periods = r.periods;
      frame = maybe_read whole (Some f) p.frame frame;
      order = r.order;
      policy = r.policy;
      channels = r.channels;
      tasks = r.tasks;
      faults = r.faults;
      restarts = r.restarts;
      clock = maybe_read clock_at (Some k) p.clock clock;
    })
