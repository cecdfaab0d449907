-- A node whose state more than half of all nodes tell.
use Rattle.std.specs.Prelude.{◌≡◌, ℕ, ◌<◌, ◌*◌, true, false, List, length}
use Rattle.node_grid.specs.NodeSet.{IsIdSet, has_id}
use Rattle.shared_states.specs.Sharing.{IsShared}
use Rattle.heard_states.specs.declared.sending.Sending.{Sending}

-- node j is full and has the state of the leader, and no line touches a frame of it
pub record IsTeller {N : ℕ} (s : Sending N) (leader j : ℕ) : Type 0 where
  pub full : has_id s.senders.full j ≡ true
  pub untouched : has_id s.senders.touched j ≡ false
  pub shared : IsShared s.states.now leader j

-- more than half of all nodes tell its state
pub record IsLeader {N : ℕ} (s : Sending N) (leader : ℕ) : Type 0 where
  pub tellers : List ℕ
  pub ids : IsIdSet N tellers
  pub many : s.slot.config.now.nodes < 2 * length tellers
  pub tell : (j : ℕ) → has_id tellers j ≡ true → IsTeller s leader j
