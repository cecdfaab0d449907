-- How many members of each class a period has.
use Rattle.std.specs.Prelude.{◌≡◌, ℕ, ◌+◌, ◌*◌, ◌<◌, ◌≤◌, Bool, List, length}
use Rattle.node_grid.specs.Count.{bit, count}
use Rattle.node_grid.specs.declared.class.Class.{Class}
use Rattle.node_grid.specs.Class.{is_asymmetric, is_symmetric, is_silent}
use Rattle.fault_classes.specs.declared.budget.Budget.{Budget}
use Rattle.fault_classes.specs.Plan.{Plan, class_of}

-- whether a node is of such a class
abbrev pub counts_as : (Class → Bool) → Plan → ℕ → ℕ → Bool
counts_as is plan p q = is (class_of plan p q)

pub record IsBudget (plan : Plan) (p : ℕ) (members : List ℕ) (b : Budget) : Type 0 where
  pub all : b.n ≡ length members
  pub asymmetric : b.a ≡ count (counts_as is_asymmetric plan p) members
  pub symmetric : b.s ≡ count (counts_as is_symmetric plan p) members
  pub silent : b.b ≡ count (counts_as is_silent plan p) members

-- with one member more, of this class
abbrev pub with_member : Budget → Class → Budget
with_member budget class = record { n = budget.n; a = budget.a + bit (is_asymmetric class); s = budget.s + bit (is_symmetric class); b = budget.b + bit (is_silent class) }

-- n > 2a + 2s + b + m, and a <= m
pub record Holds (b : Budget) (m : ℕ) : Type 0 where
  pub enough : 2 * b.a + 2 * b.s + b.b + m < b.n
  pub few : b.a ≤ m
