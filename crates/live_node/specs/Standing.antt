-- What holds of a node between two lines.
use Rattle.std.specs.Prelude.{◌≡◌, ℕ, ◌+◌, ◌*◌, ◌^◌, ◌<◌, ◌≤◌, ℤ, true, List, length, Option, None, Some, IfSome, All, if◌then◌else◌, slice_index_or}
use Rattle.frames.specs.Content.{IsValue}
use Rattle.protocol.specs.View.{channel_room}
use Rattle.node_steps.specs.Parts.{NodeView}
use Rattle.scenario.specs.Scenario.{IsScenario}
use Rattle.live_node.specs.Live.{LiveView, is_open}

-- what was told of so many channels or nodes are values
pub record AreTold (count : ℕ) (xs : List (Option ℤ)) : Type 0 where
  pub each : length xs ≡ count
  pub values : All (λ o. IfSome o IsValue) xs

pub record IsLive {N : ℕ} (v : LiveView N) : Type 0 where
  pub scenario : IsScenario v.scenario
  pub id : v.id < v.scenario.config.nodes
  pub config : v.node.config ≡ v.scenario.config
  pub me : v.node.phase.me ≡ v.id
  pub period : 0 < v.next → v.next ≡ v.node.phase.period + 1
  pub started : is_open v ≡ true → v.run < v.next
  pub within : is_open v ≡ true → v.node.phase.slot ≤ 2 * v.node.config.m + 3
  pub run : v.run ≤ v.next
  pub next : v.next ≤ 2 ^ 32
  pub given : AreTold channel_room v.given
  pub ahead : AreTold N v.ahead
  pub own : slice_index_or v.ahead v.id None ≡ None

-- the slot that is open, if any
abbrev pub open_slot : {N : ℕ} → NodeView N → Option ℕ
open_slot v = if v.phase.is_open then Some v.phase.slot else None

-- with this slot open, and rooms of so many bytes for its frame and for a line
pub record IsHeld {N : ℕ} (v : LiveView N) (slot : Option ℕ) (frame text : ℕ) : Type 0 where
  pub live : IsLive v
  pub slot_is : slot ≡ open_slot v.node
  pub frame_room : v.node.arrived.frame_max ≤ frame
  pub text_room : 2 * v.node.arrived.frame_max + 32 ≤ text
