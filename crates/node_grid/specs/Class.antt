-- The classes of nodes, and how many nodes of each class a period tolerates.
use Rattle.std.specs.Prelude.{ℕ, ◌+◌, ◌*◌, ◌<◌, ◌≤◌, Bool, true, false, List, length}
use Rattle.node_grid.specs.declared.class.Class.{Class}
use Rattle.node_grid.specs.declared.class.Class.TheVariants.{N, J, B, S, A}
use Rattle.node_grid.specs.Count.{count}

abbrev pub is_nonfaulty : Class → Bool
is_nonfaulty N = true
is_nonfaulty _ = false

-- joining or benign: nothing that it sends is taken for good
abbrev pub is_silent : Class → Bool
is_silent J = true
is_silent B = true
is_silent _ = false

abbrev pub is_symmetric : Class → Bool
is_symmetric S = true
is_symmetric _ = false

abbrev pub is_asymmetric : Class → Bool
is_asymmetric A = true
is_asymmetric _ = false

-- nonfaulty or joining
abbrev pub is_sound : Class → Bool
is_sound N = true
is_sound J = true
is_sound _ = false

-- n > 2a + 2s + b + r over these nodes
abbrev pub IsEnough : (ℕ → Class) → List ℕ → ℕ → Type 0
IsEnough class_of nodes r =
    2 * count (λ q. is_asymmetric (class_of q)) nodes + 2 * count (λ q. is_symmetric (class_of q)) nodes + count (λ q. is_silent (class_of q)) nodes + r < length nodes

-- the budget of a period with m relay rounds: a ≤ m, and n > 2a + 2s + b + m over the members
pub record IsWithin (class_of : ℕ → Class) (members : List ℕ) (rounds : ℕ) : Type 0 where
  pub enough : IsEnough class_of members rounds
  pub few : count (λ q. is_asymmetric (class_of q)) members ≤ rounds
