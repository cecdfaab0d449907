-- A node from period to period, whatever it keeps when the first of them begins.
use Rattle.std.specs.Prelude.{◌≡◌, ℕ, ◌+◌, ◌*◌, Bool, false, List, [], ◌∷◌}
use Rattle.node_grid.specs.Capacity.{IsCapacity}
use Rattle.frames.specs.Bound.{IsGreatest}
use Rattle.frames.specs.Spelling.{spelling}
use Rattle.error_detect.specs.Multiset.{Arriving}
use Rattle.agreed_state.specs.declared.config.Config.{Config}
use Rattle.agreed_state.specs.declared.config.Inputs.{Inputs}
use Rattle.agreed_state.specs.Config.{IsConfig}
use Rattle.agreed_state.specs.Body.{state_len}
use Rattle.protocol.specs.View.{Kept, View, opened}
use Rattle.protocol.specs.ViewLaws.{IsValid}
use Rattle.protocol.specs.Configured.{setting_of}
use Rattle.protocol.specs.Saying.{says}
use Rattle.node_steps.specs.Parts.{NodeView}
use Rattle.node_steps.specs.Steps.{begun}
use Rattle.node_steps.specs.Living.{restarted_if}
use Rattle.node_steps.specs.Period.{slots_run}
use Rattle.node_steps.specs.Sending.{fixed, fixed_of, GoesThrough}
use Rattle.live_law.specs.Received.{received, view_delivered}

-- node i between two periods, which keeps k, an agreed state of the configuration or none
pub record IsBetween {N : ℕ} (config : Config N) (i : ℕ) (k : Kept) (v : NodeView N) : Type 0 where
  pub room : ℕ
  pub greatest : IsGreatest config.nodes config.m (state_len config) 8 room
  pub same : fixed v ≡ fixed_of config room i
  pub keeps : v.kept ≡ k
  pub valid : IsValid (setting_of config) k.state
  pub shut : v.phase.is_open ≡ false

-- a period that comes next: its number, whether the node restarts before it, what the node is given for it, and what is delivered to
-- the node in each slot
pub record Next : Type 0 where
  pub period : ℕ
  pub restarts : Bool
  pub inputs : Inputs
  pub slots : ℕ → List Arriving

module _ {N : ℕ} (config : Config N) (i : ℕ) where
  -- what node i goes into it with, where it kept k
  abbrev pub begins_next : Kept → Next → Kept
  begins_next k q = opened (setting_of config) q.restarts k

  -- its view of it, as the protocol says
  abbrev pub view_next : Kept → Next → View
  view_next k q = view_delivered config i q.period q.inputs (begins_next k q) q.slots

  -- and what it says in a slot
  abbrev pub frame_next : Kept → Next → ℕ → List ℕ
  frame_next k q t =
      spelling config.nodes (record { version = config.version; period = q.period; sender = i; slot = t })
      (says (setting_of config) i q.inputs (begins_next k q) (received config i q.period q.inputs (begins_next k q) q.slots) (view_next k q) t)

  -- the node as it begins it, and after it
  abbrev pub begun_next : NodeView N → Next → NodeView N
  begun_next v q = begun (restarted_if q.restarts v) q.period q.inputs

  abbrev pub after_next : NodeView N → Next → NodeView N
  after_next v q = slots_run q.slots (2 * config.m + 4) (begun_next v q)

  -- the node goes through each of these periods as the protocol says: its frames, what it keeps and what it records
  unfoldable pub GoesThroughAll : Kept → NodeView N → List Next → Type 0
  GoesThroughAll k v [] = IsBetween config i k v
  GoesThroughAll k v (q ∷ qs) =
      GoesThrough config i q.period q.inputs (begins_next k q) (received config i q.period q.inputs (begins_next k q) q.slots) q.slots (restarted_if q.restarts v)
      × GoesThroughAll (view_next k q).kept (after_next v q) qs

-- Law: so does each node, through any periods and whatever is delivered to it in their slots
abbrev pub AnyPeriodsLaw : Type 0
AnyPeriodsLaw =
    (N : ℕ) (config : Config N) (i : ℕ) (k : Kept) (v : NodeView N) (qs : List Next)
    → IsCapacity N → IsConfig N config → IsBetween config i k v → GoesThroughAll config i k v qs
