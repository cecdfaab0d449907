-- Nodes in groups: by node the least node of its group, the first.
use Rattle.std.specs.Prelude.{◌≡◌, ◌≢◌, ◌<◌, ◌≤◌, ℕ, Bool, true, false, List, slice_index}
use Rattle.node_grid.specs.NodeSet.{has_id}

-- the first of a node's group
abbrev pub first_of : List ℕ → ℕ → ℕ
first_of groups i = slice_index groups i

-- of n nodes none stands before the first of its group, which is its own first
pub record AreFirsts (n : ℕ) (groups : List ℕ) : Type 0 where
  pub early : (i : ℕ) → i < n → first_of groups i ≤ i
  pub own : (i : ℕ) → i < n → first_of groups (first_of groups i) ≡ first_of groups i

-- what a test tells of two nodes, an earlier one and a later one
abbrev pub Tells : Type 1
Tells = ℕ → ℕ → Bool → Type 0

-- groups of these nodes by a test: each is alike the first of its group, and no first is alike one before it; the others are by themselves
pub record AreGroups (n : ℕ) (nodes : List ℕ) (tells : Tells) (groups : List ℕ) : Type 0 where
  pub others : (i : ℕ) → i < n → has_id nodes i ≡ false → first_of groups i ≡ i
  pub among : (i : ℕ) → i < n → has_id nodes i ≡ true → has_id nodes (first_of groups i) ≡ true
  pub alike : (i : ℕ) → i < n → first_of groups i ≢ i → tells (first_of groups i) i true
  pub apart : (r i : ℕ) → r < i → i < n → has_id nodes r ≡ true → has_id nodes i ≡ true → first_of groups r ≡ r → first_of groups i ≡ i → tells r i false

-- a test within groups that are there already: of nodes of one group it tells what the other test does, and of others that they aren't alike
abbrev pub tells_within : List ℕ → Tells → Tells
tells_within groups tells r i true = (first_of groups r ≡ first_of groups i) × tells r i true
tells_within groups tells r i false = first_of groups r ≡ first_of groups i → tells r i false
