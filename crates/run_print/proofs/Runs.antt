-- What runs on nodes that have no copies.
use Rattle.std.proofs.Common.{◌≡◌, ◌≤◌, ℕ, None, inl, inr, ap, ◌∙◌, arith}
use Rattle.list_scheduler.specs.Copies.{CopyTable, copy_at, running, works, IsTable}
use Rattle.list_scheduler.specs.CopyLaws.{in_table, works_none}

-- nothing runs on a node beyond those of the table
pub none_beyond : (n : ℕ) (copies : CopyTable) (q : ℕ) → IsTable n copies → n ≤ q → works copies q ≡ None
none_beyond n copies q shape far = works_none copies q (λ u h. elim (in_table n (copy_at copies) u q) [
  | inl i ↦ absurd (omega (arith, i.2, far))
  | inr idle ↦ ap running (ap (λ (c : CopyTable). copy_at c u q) shape ∙ idle)
])
