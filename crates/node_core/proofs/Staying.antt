-- A node stays one while its controller is sound.
use Rattle.std.proofs.Common.{ℕ, ◌≡◌, sym, subst}
use Rattle.frames.specs.Bound.{IsGreatest}
use Rattle.agreed_state.specs.Body.{state_len}
use Rattle.agreed_state.specs.Config.{IsConfig}
use Rattle.node_core.specs.Between.{IsNode}
use Rattle.node_steps.specs.Parts.{NodeView}
use Rattle.node_steps.specs.Sending.{Fixed, fixed}
use Rattle.node_steps.specs.Sound.{IsSound}

pub node_stays : {N : ℕ} (v w : NodeView N) → fixed w ≡ fixed v → IsSound w → IsNode v → IsNode w
node_stays {N} v w same sound inv = record {
  capacity = inv.capacity;
  config = subst (λ (f : Fixed N). IsConfig N f.config) (sym same) inv.config;
  greatest = subst (λ (f : Fixed N). IsGreatest f.config.nodes f.config.m (state_len f.config) 8 f.room) (sym same) inv.greatest;
  sound = sound;
}
