-- What is laid out for c nodes, laid out for k more.
use Rattle.std.specs.Prelude.{ℕ, ℤ, ◌+◌, List, ◌++◌, length, map, replicate, Option, None, pos, if◌then◌else◌, nat_le}
use Rattle.std.specs.Option.{option_map}
use Rattle.mme_vote.specs.declared.channel.Channel.{Channel}
use Rattle.mme_vote.specs.declared.channel.Channel.TheVariants.{State, Sensor, Copy}
use Rattle.omh_paths.specs.declared.wrapped.Wrapped.{Wrapped}
use Rattle.omh_paths.specs.declared.wrapped.Wrapped.TheVariants.{Fault}
use Rattle.clock_skew.specs.Clock.{ClockView}
use Rattle.list_scheduler.specs.declared.copies.CopyState.TheVariants.{Idle}
use Rattle.list_scheduler.specs.Copies.{CopyTable}
use Rattle.membership.specs.Members.{Standing}
use Rattle.fault_classes.specs.Plan.{Plan}
use Rattle.agreed_state.specs.declared.config.Config.{Config}
use Rattle.agreed_state.specs.declared.config.Inputs.{Inputs}
use Rattle.agreed_state.specs.Agreed.{AgreedView}
use Rattle.protocol.specs.View.{Setting, Kept, View}
use Rattle.protocol.specs.FurtherKinds.{convictions}
use Rattle.protocol.specs.Run.{System}

-- a list that has room for n nodes, with k further places; another list stays
abbrev pub wide : ℕ → ℕ → List ℕ → List ℕ
wide n k xs = if nat_le n (length xs) then xs ++ replicate k 0 else xs

-- a table with k further nodes
abbrev pub wide_copies : ℕ → CopyTable → CopyTable
wide_copies k copies = map (λ row. row ++ replicate k Idle) copies

abbrev pub wide_rows : ℕ → ℕ → List (Option (List ℕ)) → List (Option (List ℕ))
wide_rows n k rows = map (option_map (wide n k)) rows ++ replicate k None

abbrev pub wide_claims : ℕ → List (Wrapped ℕ) → List (Wrapped ℕ)
wide_claims k done = done ++ replicate k (Fault 0)

-- ---- what all nodes run under

abbrev pub wide_channel : {c : ℕ} (k : ℕ) → Channel c → Channel (c + k)
wide_channel k (State delta start step) = State delta (start ++ replicate k (pos 0)) step
wide_channel k (Sensor delta task) = Sensor delta task
wide_channel k (Copy delta task lies) = Copy delta task lies

abbrev pub wide_config : {c : ℕ} (k : ℕ) → Config c → Config (c + k)
wide_config k g = record {
  version = g.version;
  nodes = g.nodes;
  m = g.m;
  frame = g.frame;
  policy = g.policy;
  graph = g.graph;
  channels = record { items = map (wide_channel k) g.channels.items };
}

abbrev pub setting_of : {c : ℕ} → Config c → Setting
setting_of {c} g = record { capacity = c; config = g; further = convictions g.m }

abbrev pub system_over : {c : ℕ} → Config c → Plan → (ℕ → ℕ → Inputs) → System
system_over g plan inputs = record { setting = setting_of g; plan = plan; inputs = inputs }

-- a row of numbers of clocks, and a plan of clocks
abbrev pub longer : ℕ → List ℤ → List ℤ
longer k row = row ++ replicate k (pos 0)

abbrev pub wide_clock : ℕ → ClockView → ClockView
wide_clock k c = record {
  nodes = c.nodes;
  epsilon = c.epsilon;
  drift = c.drift;
  start = longer k c.start;
  drifts = map (longer k) c.drifts;
  errors = map (longer k) c.errors;
  lies = c.lies;
}

-- ---- what a node keeps and believes

abbrev pub wide_standing : ℕ → ℕ → Standing → Standing
wide_standing n k s = record { members = s.members; counts = wide n k s.counts; streaks = wide n k s.streaks; left = wide n k s.left }

abbrev pub wide_agreed : ℕ → ℕ → AgreedView → AgreedView
wide_agreed n k a = record { standing = wide_standing n k a.standing; copies = wide_copies k a.copies }

abbrev pub wide_kept : ℕ → ℕ → Kept → Kept
wide_kept n k x = record { state = option_map (wide_agreed n k) x.state; carried = wide n k x.carried; votes = x.votes; owns = x.owns }

abbrev pub wide_view : ℕ → ℕ → View → View
wide_view n k v = record {
  mode = v.mode;
  before = option_map (wide_agreed n k) v.before;
  sync = v.sync;
  done = wide_claims k v.done;
  due = v.due;
  own = v.own;
  votes = v.votes;
  found = wide n k v.found;
  rows = wide_rows n k v.rows;
  kept = wide_kept n k v.kept;
}
