-- Which frames of the slot no line touches, and a slot of which nothing is to be worked out.
use Rattle.std.specs.Prelude.{◌≡◌, ◌≢◌, ℕ, ◌<◌, true, false, List, [], Option, None, is_some}
use Rattle.node_grid.specs.NodeSet.{has_id}
use Rattle.fault_classes.specs.Line.{effect_at}
use Rattle.agreed_state.specs.Agreed.{AgreedView}
use Rattle.shared_states.specs.Sharing.{state_at, IsOne}
use Rattle.heard_states.specs.declared.slot.SyncSlot.{SyncSlot}

-- no line touches a frame to another node in use from one that is not of these
abbrev pub AreUntouched : {n : ℕ} → SyncSlot n → List ℕ → Type 0
AreUntouched slot touched =
    (j i : ℕ) → j < slot.config.now.nodes → i < slot.config.now.nodes → j ≢ i → has_id touched j ≡ false → effect_at slot.plan.now.lines slot.period 0 j i ≡ None

-- no line touches any, and all nodes in use have the same state
pub record IsCalm {n : ℕ} (slot : SyncSlot n) (states : List (Option AgreedView)) : Type 0 where
  pub untouched : AreUntouched slot []
  pub there : (j : ℕ) → j < slot.config.now.nodes → is_some (state_at states j) ≡ true
  pub one : IsOne states
