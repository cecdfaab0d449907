-- The agreed states of all nodes, by node.
use Rattle.std.specs.Prelude.{◌≡◌, ℕ, true, ◌==◌, nat_lt, List, map, Option, None, Some, is_some, if◌then◌else◌, slice_index_or}
use Rattle.node_grid.specs.NodeSet.{ids_below, has_id}
use Rattle.agreed_state.specs.declared.config.Config.{Config}
use Rattle.agreed_state.specs.Agreed.{AgreedView, IsAgreed, first_agreed}

-- the state of a node, and none past the end
abbrev pub state_at : List (Option AgreedView) → ℕ → Option AgreedView
state_at states i = slice_index_or states i None

-- all nodes in use have the first one
abbrev pub first_states : (n : ℕ) → Config n → List (Option AgreedView)
first_states n config = map (λ i. if nat_lt i config.nodes then Some (first_agreed n config) else None) (ids_below n)

-- the same, but for one node, which has none
abbrev pub without_state : ℕ → List (Option AgreedView) → ℕ → List (Option AgreedView)
without_state n states i = map (λ j. if j == i then None else state_at states j) (ids_below n)

-- the same, but for these nodes, which have this one
abbrev pub with_state : ℕ → List (Option AgreedView) → List ℕ → AgreedView → List (Option AgreedView)
with_state n states nodes a = map (λ j. if has_id nodes j then Some a else state_at states j) (ids_below n)

-- the same, but for node i, which has that of node j
abbrev pub shared_with : ℕ → List (Option AgreedView) → ℕ → ℕ → List (Option AgreedView)
shared_with n states i j = map (λ k. if k == i then state_at states j else state_at states k) (ids_below n)

-- two nodes have a state, and it is the same
abbrev pub IsShared : List (Option AgreedView) → ℕ → ℕ → Type 0
IsShared states i j = (is_some (state_at states i) ≡ true) × (state_at states j ≡ state_at states i)

-- all nodes that have a state have the same
abbrev pub IsOne : List (Option AgreedView) → Type 0
IsOne states = (i j : ℕ) → is_some (state_at states i) ≡ true → is_some (state_at states j) ≡ true → state_at states j ≡ state_at states i

-- each state that a node has is one of the configuration
abbrev pub AreAgreed : {n : ℕ} → Config n → List (Option AgreedView) → Type 0
AreAgreed {n} config states = (i : ℕ) (a : AgreedView) → state_at states i ≡ Some a → IsAgreed n config a
