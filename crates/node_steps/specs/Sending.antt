-- A node through a period: what it sends in each slot, where it ends, and what of it never changes.
use Rattle.std.specs.Prelude.{◌≡◌, ◌<◌, ◌≤◌, ℕ, ◌+◌, ◌*◌, true, List, length, Some}
use Rattle.node_grid.specs.NodeSet.{IsIdSet}
use Rattle.frames.specs.Spelling.{spelling}
use Rattle.error_detect.specs.Watching.{HasRoom}
use Rattle.error_detect.specs.Multiset.{Arriving}
use Rattle.agreed_state.specs.declared.config.Config.{Config}
use Rattle.agreed_state.specs.declared.config.Inputs.{Inputs}
use Rattle.agreed_state.specs.Agreed.{AgreedView}
use Rattle.protocol.specs.View.{Kept, Received, view_from}
use Rattle.protocol.specs.Saying.{says}
use Rattle.node_steps.specs.Parts.{NodeView}
use Rattle.protocol.specs.Configured.{setting_of}
use Rattle.node_steps.specs.Steps.{begun, frame_of}
use Rattle.node_steps.specs.Period.{slots_run, expect_at, goes, Told, IsOver}

-- ---- what never changes of a node

pub record Fixed (N : ℕ) : Type 0 where
  pub config : Config N
  pub me : ℕ
  pub done_nodes : ℕ
  pub done_rounds : ℕ
  pub rows_nodes : ℕ
  pub rows_rounds : ℕ
  pub watch_nodes : ℕ
  pub watch_me : ℕ
  pub room : ℕ

abbrev pub fixed : {N : ℕ} → NodeView N → Fixed N
fixed v = record {
  config = v.config;
  me = v.phase.me;
  done_nodes = v.done.nodes;
  done_rounds = v.done.rounds;
  rows_nodes = v.rows.nodes;
  rows_rounds = v.rows.rounds;
  watch_nodes = v.arrived.nodes;
  watch_me = v.arrived.me;
  room = v.arrived.frame_max;
}

-- that of node i
abbrev pub fixed_of : {N : ℕ} → Config N → ℕ → ℕ → Fixed N
fixed_of config room i = record {
  config = config;
  me = i;
  done_nodes = config.nodes;
  done_rounds = config.m;
  rows_nodes = config.nodes;
  rows_rounds = config.m;
  watch_nodes = config.nodes;
  watch_me = i;
  room = room;
}

-- ---- a period

-- what is given of a period: x is what the deliveries say
pub record IsServed {N : ℕ} (config : Config N) (i p : ℕ) (g : Inputs) (k : Kept) (x : Received) (room : ℕ) (ds : ℕ → List Arriving) : Type 0 where
  pub few : config.nodes ≤ N
  pub few_channels : length config.channels.items ≤ 8
  pub told : Told config i p g k x ds
  pub rooms : (t : ℕ) (ms : List ℕ) (due : ℕ) → IsIdSet config.nodes ms → due ≤ 8 → HasRoom room (expect_at config i p g k x t ms due)
  pub members : (a : AgreedView) → goes config i p g k x ≡ Some a → IsIdSet config.nodes a.standing.members

-- a node through the slots of a period: its frames, where it ends, and what stays
pub record GoesThrough {N : ℕ} (config : Config N) (i p : ℕ) (g : Inputs) (k : Kept) (x : Received) (ds : ℕ → List Arriving) (v : NodeView N) : Type 0 where
  pub frames : (t : ℕ) → t < 2 * config.m + 4
      → frame_of (slots_run ds t (begun v p g)) ≡ spelling config.nodes (record { version = config.version; period = p; sender = i; slot = t }) (says (setting_of config) i g k x (view_from (setting_of config) i p g k x k.state) t)
  pub over : IsOver (slots_run ds (2 * config.m + 4) (begun v p g)) (view_from (setting_of config) i p g k x k.state)
  pub opens : (t : ℕ) → t < 2 * config.m + 4 → (slots_run ds t (begun v p g)).phase.is_open ≡ true
  pub stays : (t : ℕ) → fixed (slots_run ds t (begun v p g)) ≡ fixed v

-- Law: a node goes through each period
abbrev pub PeriodLaw : Type 0
PeriodLaw =
    (N : ℕ) (config : Config N) (i p : ℕ) (g : Inputs) (k : Kept) (x : Received) (room : ℕ) (ds : ℕ → List Arriving) (v : NodeView N)
    → IsServed config i p g k x room ds → fixed v ≡ fixed_of config room i → v.kept ≡ k → GoesThrough config i p g k x ds v
