-- What one node has of another one's frame of the sync slot, and what it makes of it.
use Rattle.std.specs.Prelude.{◌≡◌, ◌≢◌, ℕ, ◌<◌, ◌≤◌, Bool, true, false, not, ◌&&◌, ◌==◌, nat_lt, List, length, Option, None, Some, if◌then◌else◌}
use Rattle.node_grid.specs.Kinds.{state, cold}
use Rattle.frames.specs.Content.{Content, State, Cold}
use Rattle.agreed_state.specs.declared.config.Config.{Config}
use Rattle.agreed_state.specs.Agreed.{AgreedView}
use Rattle.agreed_state.specs.Body.{body}
use Rattle.protocol.specs.Arrival.{Arrival, is_good}
use Rattle.protocol.specs.Arrival.Arrival.{Bad, Good}
use Rattle.protocol.specs.View.{content, other_body}
use Rattle.heard_states.specs.Told.{told_in, AreSenders}
use Rattle.heard_states.specs.declared.sending.Told.{Told}
use Rattle.heard_states.specs.declared.sending.Told.TheVariants as told
use Rattle.heard_states.specs.declared.sending.Sending.{Sending}
use Rattle.heard_states.specs.declared.hearing.Heard.{Heard}
use Rattle.heard_states.specs.declared.hearing.Heard.TheVariants as heard

-- what node i has of the frame of node j
abbrev pub told_by : {N : ℕ} → Sending N → ℕ → ℕ → Arrival (List ℕ)
told_by s i j = told_in s.slot s.senders.full s.states.now i j

abbrev pub IsSending : {N : ℕ} → Sending N → Type 0
IsSending s = AreSenders s.slot s.senders s.states.now

-- the frame of node j to another node, both of them in use
pub record IsFrame {N : ℕ} (s : Sending N) (j i : ℕ) : Type 0 where
  pub sending : IsSending s
  pub from : j < s.slot.config.now.nodes
  pub to : i < s.slot.config.now.nodes
  pub other : j ≢ i

-- what the code has of a frame that says this state, or that its sender is cold
abbrev pub told_as : {N : ℕ} → Config N → Option AgreedView → Told → Arrival (List ℕ)
told_as config o (told.Bad k) = Bad k
told_as config o (told.Bytes bytes) = Good bytes.items
told_as config None told.Sent = Bad cold
told_as config (Some a) told.Sent = Good (body config a)

-- what a content says of a state is no longer than a state
abbrev pub IsShortState : Content → Type 0
IsShortState (State bytes) = length bytes ≤ 1152
IsShortState _ = Unit {0}

-- a full node's state, or that a node is cold
abbrev pub IsSaid : ℕ → Content → Type 0
IsSaid size (State bytes) = length bytes ≡ size
IsSaid size Cold = Unit {0}
IsSaid size _ = ⊥

-- what a node makes of what it has, where it goes through the period with this state, or with none
abbrev pub IsHeardAs : {N : ℕ} → Config N → Option AgreedView → Heard → Arrival (List ℕ) → Type 0
IsHeardAs config own (heard.Bad k) b = b ≡ Bad k
IsHeardAs config own heard.Same b = (is_good b ≡ true) × ((a : AgreedView) → own ≡ Some a → other_body (body config a) b ≡ false)
IsHeardAs config own heard.Other b = (is_good b ≡ true) × ((a : AgreedView) → own ≡ Some a → other_body (body config a) b ≡ true)

abbrev pub is_heard_well : Heard → Bool
is_heard_well (heard.Bad k) = false
is_heard_well heard.Same = true
is_heard_well heard.Other = true

-- the kind that is noted
abbrev pub heard_kind : Heard → Option ℕ
heard_kind (heard.Bad k) = Some k
heard_kind heard.Same = None
heard_kind heard.Other = Some state

-- the body that node i was told by node j, among so many nodes
abbrev pub body_at : ℕ → ℕ → (ℕ → Arrival (List ℕ)) → ℕ → Option (List ℕ)
body_at nodes i sync j = if nat_lt j nodes && not (j == i) then content (sync j) else None
