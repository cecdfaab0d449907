-- The record of a finished period.
use Rattle.std.specs.Prelude.{ℕ, ℤ, List, [], replicate, Option, None}
use Rattle.omh_paths.specs.declared.wrapped.Wrapped.{Wrapped}
use Rattle.omh_paths.specs.declared.wrapped.Wrapped.TheVariants.{Fault}
use Rattle.agreed_state.specs.Agreed.{AgreedView}
use Rattle.protocol.specs.View.{Mode as ViewMode}
use Rattle.protocol.specs.View.Mode.{Cold as ViewCold}

pub record Outcome : Type 0 where
  pub mode : ViewMode
  pub agreed : Option AgreedView
  pub members : List ℕ
  pub done : List (Wrapped ℕ)
  pub rows : List (Option (List ℕ))
  pub due : List ℕ
  pub votes : List (Option ℤ)
  pub found : List ℕ
  pub sync : List ℕ  -- the other nodes whose frames in the sync slot were good

-- of a node that is Cold
abbrev pub cold_outcome : ℕ → Outcome
cold_outcome capacity = record {
  mode = ViewCold;
  agreed = None;
  members = [];
  done = replicate capacity (Fault 0);
  rows = replicate capacity None;
  due = [];
  votes = replicate 8 None;
  found = replicate capacity 0;
  sync = [];
}
