-- What holds between calls is kept, and gives what a frame asks.
use Rattle.std.specs.Prelude.{◌≡◌, ℕ, true, All}
use Rattle.node_grid.specs.Capacity.{IsCapacity}
use Rattle.frames.specs.Spelling.{IsInRange}
use Rattle.agreed_state.specs.declared.config.Inputs.{Inputs}
use Rattle.frames.specs.Content.{IsValue}
use Rattle.agreed_state.specs.Config.{IsConfig}
use Rattle.node_steps.specs.Parts.{NodeView}
use Rattle.node_steps.specs.Sound.{IsSound}
use Rattle.node_steps.specs.Steps.{after_slot, begun, expected_in, said_by}

-- Law: a sound node is sound after each slot, whatever it was delivered, and when it begins a period
pub record StaysSound : Type 0 where
  pub slot : (N : ℕ) (v : NodeView N) → IsCapacity N → IsConfig N v.config → IsSound v → v.phase.is_open ≡ true → IsSound (after_slot v)
  pub begin : (N : ℕ) (v : NodeView N) (period : ℕ) (inputs : Inputs) → IsConfig N v.config → All IsValue inputs.reading → IsSound v → IsSound (begun v period inputs)

-- Law: what a sound node says in its open slot is in the range of what is expected there
abbrev pub SaysInRange : Type 0
SaysInRange = (N : ℕ) (v : NodeView N) → IsCapacity N → IsConfig N v.config → IsSound v → v.phase.is_open ≡ true → IsInRange (expected_in v v.phase.slot) (said_by v v.phase.before)
