-- When a node has a frame to write.
use Rattle.std.specs.Prelude.{◌≡◌, ℕ, ◌≤◌, true, Some}
use Rattle.frames.specs.declared.frame.Head.{Head}
use Rattle.agreed_state.specs.Agreed.{AgreedView}
use Rattle.node_steps.specs.Parts.{NodeView}
use Rattle.node_steps.specs.Sound.{IsSound}

-- the head of the frame of the open slot
abbrev pub head_now : {N : ℕ} → NodeView N → Head
head_now v = record { version = v.config.version; period = v.phase.period; sender = v.phase.me; slot = v.phase.slot }

-- its slot is open, and a buffer has room for whatever it may say there
pub record IsReady {N : ℕ} (v : NodeView N) (size : ℕ) : Type 0 where
  pub sound : IsSound v
  pub is_open : v.phase.is_open ≡ true
  pub room : v.arrived.frame_max ≤ size

-- it is Full, and goes through the period with this state
pub record IsFullWith {N : ℕ} (v : NodeView N) (a : AgreedView) : Type 0 where
  pub full : v.phase.full ≡ true
  pub goes : v.phase.before ≡ Some a
