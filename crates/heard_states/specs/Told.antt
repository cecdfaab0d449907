-- What one node has of another one's frame, where some nodes are full.
use Rattle.std.specs.Prelude.{◌≡◌, ℕ, ◌<◌, true, List, length, Option, None, is_some, if◌then◌else◌}
use Rattle.node_grid.specs.NodeSet.{has_id}
use Rattle.agreed_state.specs.Agreed.{AgreedView}
use Rattle.protocol.specs.Arrival.{Arrival}
use Rattle.shared_states.specs.Sharing.{state_at, AreAgreed}
use Rattle.heard_states.specs.Slot.{IsSyncSlot, told_state}
use Rattle.heard_states.specs.Calm.{AreUntouched}
use Rattle.heard_states.specs.declared.slot.SyncSlot.{SyncSlot}
use Rattle.heard_states.specs.declared.sending.Senders.{Senders}

-- the state of a full node, and of any other node none
abbrev pub sent_by : List ℕ → List (Option AgreedView) → ℕ → Option AgreedView
sent_by full states j = if has_id full j then state_at states j else None

-- what node i has of the frame of node j
abbrev pub told_in : {n : ℕ} → SyncSlot n → List ℕ → List (Option AgreedView) → ℕ → ℕ → Arrival (List ℕ)
told_in slot full states i j = told_state slot.config.now slot.plan.now slot.period i j (sent_by full states j)

-- full nodes are in use and have states; of senders that aren't touched no line touches a frame
pub record AreSenders {n : ℕ} (slot : SyncSlot n) (senders : Senders n) (states : List (Option AgreedView)) : Type 0 where
  pub slot_is : IsSyncSlot slot
  pub long : length states ≡ n
  pub agreed : AreAgreed slot.config.now states
  pub used : (j : ℕ) → has_id senders.full j ≡ true → j < slot.config.now.nodes
  pub there : (j : ℕ) → has_id senders.full j ≡ true → is_some (state_at states j) ≡ true
  pub untouched : AreUntouched slot senders.touched
