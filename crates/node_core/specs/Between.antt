-- What holds of a node between its calls.
use Rattle.std.specs.Prelude.{ℕ}
use Rattle.node_grid.specs.Capacity.{IsCapacity}
use Rattle.frames.specs.Bound.{IsGreatest}
use Rattle.agreed_state.specs.Config.{IsConfig}
use Rattle.agreed_state.specs.Body.{state_len}
use Rattle.node_steps.specs.Parts.{NodeView}
use Rattle.node_steps.specs.Sound.{IsSound}

-- it is sound, and its greatest frame is the longest of its configuration
pub record IsNode {N : ℕ} (v : NodeView N) : Type 0 where
  pub capacity : IsCapacity N
  pub config : IsConfig N v.config
  pub greatest : IsGreatest v.config.nodes v.config.m (state_len v.config) 8 v.arrived.frame_max
  pub sound : IsSound v
