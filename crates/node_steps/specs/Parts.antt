-- The parts of a node.
use Rattle.std.specs.Prelude.{ℕ, ℤ, Bool, List, Option}
use Rattle.omh_paths.specs.declared.wrapped.Wrapped.{Wrapped}
use Rattle.omh.specs.Heard.{Hearing}
use Rattle.error_detect.specs.Watching.{Watch}
use Rattle.agreed_state.specs.declared.config.Config.{Config}
use Rattle.agreed_state.specs.declared.config.Inputs.{Inputs}
use Rattle.agreed_state.specs.Agreed.{AgreedView}
use Rattle.protocol.specs.View.{Kept}
use Rattle.node_steps.specs.Outcome.{Outcome}

-- where a node stands: its number, the period and the slot, whether the slot is open, what it is given for the period,
-- whether it had an agreed state when the period began, and the one with which it goes through the period
pub record Phase : Type 0 where
  pub me : ℕ
  pub period : ℕ
  pub slot : ℕ
  pub is_open : Bool
  pub inputs : Inputs
  pub full : Bool
  pub before : Option AgreedView

-- what it found so far in the period
pub record Found : Type 0 where
  pub sync : List ℕ  -- the other nodes whose frames in the sync slot were good
  pub notes : List ℕ  -- its own row, as far as it is known
  pub late : List ℕ  -- what it carries over
  pub claims : List (Wrapped ℕ)  -- settled
  pub due : List ℕ
  pub own : List (Option ℤ)
  pub votes : List (Option ℤ)

pub record NodeView (N : ℕ) : Type 0 where
  pub config : Config N
  pub phase : Phase
  pub kept : Kept
  pub done : Hearing ℕ
  pub rows : Hearing (List ℕ)
  pub found : Found
  pub arrived : Watch
  pub outcome : Outcome
