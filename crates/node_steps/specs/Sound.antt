-- What holds of a node between calls, and of one that took a slot.
use Rattle.std.specs.Prelude.{◌≡◌, ℕ, ◌+◌, ◌*◌, ◌<◌, ◌≤◌, true, false, length, Some, All, IfSome}
use Rattle.node_grid.specs.NodeSet.{IsIdSet}
use Rattle.omh.specs.Heard.{Hearing}
use Rattle.frames.specs.Content.{IsClaim, IsRow, IsValue}
use Rattle.agreed_state.specs.declared.config.Config.{Config}
use Rattle.agreed_state.specs.Agreed.{AgreedView, IsAgreed}
use Rattle.protocol.specs.View.{Kept, own_in}
use Rattle.relay_rules.specs.Ranged.{HeardIn, IsRanged}
use Rattle.node_steps.specs.Parts.{Found, NodeView}
use Rattle.node_steps.specs.Steps.{expected_in}

-- a table with its sizes, in which the node's own item and all that was heard lie in range
pub record IsTable {V : Type 0} (P : V → Type 0) (nodes rounds : ℕ) (h : Hearing V) : Type 0 where
  pub nodes_are : h.nodes ≡ nodes
  pub rounds_are : h.rounds ≡ rounds
  pub own_range : HeardIn P 0 h.own
  pub range : IsRanged P h.heard

-- what a node keeps is an agreed state, if any, and a row
pub record KeepsInRange {N : ℕ} (config : Config N) (k : Kept) : Type 0 where
  pub state : IfSome k.state (λ a. IsAgreed N config a)
  pub carried : IsRow config.version N config.nodes k.carried

-- what it found are channels, rows and values
pub record FoundInRange {N : ℕ} (config : Config N) (f : Found) : Type 0 where
  pub due : IsIdSet (length config.channels.items) f.due
  pub notes : IsRow config.version N config.nodes f.notes
  pub late : IsRow config.version N config.nodes f.late
  pub values : (c : ℕ) → IsValue (own_in f.own c)

-- the parts of a node have their sizes and ranges
pub record HasSizes {N : ℕ} (v : NodeView N) : Type 0 where
  pub kept : KeepsInRange v.config v.kept
  pub before : IfSome v.phase.before (λ a. IsAgreed N v.config a)
  pub done : IsTable (IsClaim (length v.config.graph.tasks)) v.config.nodes v.config.m v.done
  pub rows : IsTable (IsRow v.config.version N v.config.nodes) v.config.nodes v.config.m v.rows
  pub found : FoundInRange v.config v.found
  pub readings : All IsValue v.phase.inputs.reading

-- a table that hears the items of the members
pub record Hears {V : Type 0} (h : Hearing V) (me : ℕ) (a : AgreedView) : Type 0 where
  pub members : h.members ≡ a.standing.members
  pub me_is : h.me ≡ me

-- a node with its slot open
pub record IsInSlot {N : ℕ} (v : NodeView N) : Type 0 where
  pub watching : v.arrived.is_open ≡ true
  pub expects : v.arrived.expect ≡ Some (expected_in v v.phase.slot)
  pub within : v.phase.slot ≤ 2 * v.config.m + 3
  pub done : 0 < v.phase.slot → IfSome v.phase.before (λ a. Hears v.done v.phase.me a)
  pub rows : v.config.m + 3 ≤ v.phase.slot → IfSome v.phase.before (λ a. Hears v.rows v.phase.me a)

pub record IsSound {N : ℕ} (v : NodeView N) : Type 0 where
  pub sizes : HasSizes v
  pub in_slot : v.phase.is_open ≡ true → IsInSlot v

-- a node that took what its slot says, which is closed
pub record IsTaken {N : ℕ} (v : NodeView N) : Type 0 where
  pub sizes : HasSizes v
  pub closed : v.arrived.is_open ≡ false
  pub within : v.phase.slot ≤ 2 * v.config.m + 3
  pub done : IfSome v.phase.before (λ a. Hears v.done v.phase.me a)
  pub rows : v.config.m + 2 ≤ v.phase.slot → IfSome v.phase.before (λ a. Hears v.rows v.phase.me a)
