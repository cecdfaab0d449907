-- The frames that a record takes of nodes.
use Rattle.std.specs.Prelude.{◌≡◌, ℕ, List, length}
use Rattle.node_steps.specs.Parts.{NodeView}
use Rattle.cluster_periods.specs.Record.{PeriodView}
use Rattle.cluster_record.specs.Buffers.{AreShort}

-- a record has room for the frames of these nodes
pub record HasRoomFor {N : ℕ} (r : PeriodView) (vs : List (NodeView N)) : Type 0 where
  pub each : length vs ≡ r.nodes
  pub short : AreShort r.nodes r.m vs
