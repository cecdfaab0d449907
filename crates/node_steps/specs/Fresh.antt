-- A node before its first period.
use Rattle.std.specs.Prelude.{◌≡◌, ℕ, pos, true, false, [], replicate, None}
use Rattle.omh_paths.specs.declared.wrapped.Wrapped.TheVariants.{Fault}
use Rattle.omh.specs.Heard.{Hearing, nothing_heard}
use Rattle.frames.specs.Bound.{IsGreatest}
use Rattle.error_detect.specs.Watching.{fresh}
use Rattle.agreed_state.specs.declared.config.Config.{Config}
use Rattle.agreed_state.specs.Body.{state_len}
use Rattle.protocol.specs.View.{first_kept, channel_room}
use Rattle.node_steps.specs.Outcome.{cold_outcome}
use Rattle.node_steps.specs.Parts.{NodeView}
use Rattle.node_steps.specs.Sending.{fixed, fixed_of}
use Rattle.protocol.specs.Configured.{setting_of}

-- a table that belongs to no period yet
abbrev pub unused : {V : Type 0} → ℕ → ℕ → Hearing V
unused nodes m = record { nodes = nodes; rounds = m; members = []; me = 0; full = false; own = Fault 0; heard = nothing_heard [] 0 m }

-- node me, with room for frames of so many bytes
abbrev pub newly_open : {N : ℕ} → Config N → ℕ → ℕ → NodeView N
newly_open {N} config me frame_max = record {
  config = config;
  phase = record { me = me; period = 0; slot = 0; is_open = false; inputs = record { run = replicate 32 0; reading = replicate 8 (pos 0) }; full = true; before = None };
  kept = first_kept (setting_of config);
  done = unused config.nodes config.m;
  rows = unused config.nodes config.m;
  found = record { sync = []; notes = replicate N 0; late = replicate N 0; claims = replicate N (Fault 0); due = []; own = replicate channel_room None; votes = replicate channel_room None };
  arrived = fresh config.nodes me frame_max;
  outcome = cold_outcome N;
}

-- node me goes into the first period with the first agreed state
pub record IsFresh {N : ℕ} (config : Config N) (me : ℕ) (v : NodeView N) : Type 0 where
  pub is : fixed v ≡ fixed_of config v.arrived.frame_max me
  pub greatest : IsGreatest config.nodes config.m (state_len config) 8 v.arrived.frame_max
  pub kept : v.kept ≡ first_kept (setting_of config)
  pub shut : v.phase.is_open ≡ false
  pub outcome : v.outcome ≡ cold_outcome N
