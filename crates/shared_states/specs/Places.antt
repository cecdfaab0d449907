-- States at places, and by node its place.
use Rattle.std.specs.Prelude.{◌≡◌, ℕ, ◌<◌, Bool, true, List, map, length, Option, None, if◌then◌else◌, slice_get, slice_index}
use Rattle.node_grid.specs.Capacity.{IsCapacity}
use Rattle.node_grid.specs.NodeSet.{ids_below, has_id, IsIdSet}
use Rattle.agreed_state.specs.Agreed.{AgreedView}

-- the state of each node that is awake
abbrev pub state_by : List ℕ → List ℕ → List AgreedView → ℕ → Option AgreedView
state_by awake places states i = if has_id awake i then slice_get states (slice_index places i) else None

abbrev pub states_by : ℕ → List ℕ → List ℕ → List AgreedView → List (Option AgreedView)
states_by n awake places states = map (state_by awake places states) (ids_below n)

-- each of the nodes has one of n places
abbrev pub ArePlaced : ℕ → List ℕ → List ℕ → Type 0
ArePlaced n nodes places = (i : ℕ) → has_id nodes i ≡ true → slice_index places i < n

-- all of the nodes have the same place
abbrev pub AreAtOne : List ℕ → List ℕ → Type 0
AreAtOne nodes places = (i j : ℕ) → has_id nodes i ≡ true → has_id nodes j ≡ true → slice_index places j ≡ slice_index places i

-- a node is one of these, and its state is that at this place
abbrev pub IsAlike : List AgreedView → List ℕ → List ℕ → ℕ → ℕ → Type 0
IsAlike states nodes places place i = (has_id nodes i ≡ true) × (slice_get states (slice_index places i) ≡ slice_get states place)

-- by other places each of the nodes has the same state
abbrev pub LeadAlike : List AgreedView → List ℕ → List ℕ → List ℕ → Type 0
LeadAlike states nodes places others = (i : ℕ) → has_id nodes i ≡ true → slice_get states (slice_index others i) ≡ slice_get states (slice_index places i)

pub record ArePlaces (n : ℕ) (awake places : List ℕ) (states : List AgreedView) (one : Bool) : Type 0 where
  pub capacity : IsCapacity n
  pub ids : IsIdSet n awake
  pub room : length states ≡ n
  pub placed : ArePlaced n awake places
  pub at_one : one ≡ true → AreAtOne awake places
