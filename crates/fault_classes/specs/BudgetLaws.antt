-- The counts of a period hold exactly where its members are within the budget.
use Rattle.std.proofs.Common.{ℕ, List, arith}
use Rattle.node_grid.specs.Class.{IsWithin}
use Rattle.fault_classes.specs.declared.budget.Budget.{Budget}
use Rattle.fault_classes.specs.Plan.{Plan, class_of}
use Rattle.fault_classes.specs.Budget.{IsBudget, Holds}

pub within_budget : (plan : Plan) (p : ℕ) (members : List ℕ) (b : Budget) (m : ℕ) → IsBudget plan p members b → Holds b m → IsWithin (class_of plan p) members m
within_budget plan p members b m counted h = record {
  enough = omega (arith, h.enough, counted.all, counted.asymmetric, counted.symmetric, counted.silent);
  few = omega (arith, h.few, counted.asymmetric);
}

pub budget_within : (plan : Plan) (p : ℕ) (members : List ℕ) (b : Budget) (m : ℕ) → IsBudget plan p members b → IsWithin (class_of plan p) members m → Holds b m
budget_within plan p members b m counted h = record {
  enough = omega (arith, h.enough, counted.all, counted.asymmetric, counted.symmetric, counted.silent);
  few = omega (arith, h.few, counted.asymmetric);
}
