-- What a capacity is at most.
use Rattle.std.proofs.Common.{ℕ, ◌≤◌, refl, inl, inr, arith}
use Rattle.node_grid.specs.Capacity.{IsCapacity}

pub capacity-le : (n : ℕ) → IsCapacity n → n ≤ 16
capacity-le n (inl e) = omega arith
capacity-le n (inr e) = omega arith

pub eight : IsCapacity 8
eight = inl refl

pub sixteen : IsCapacity 16
sixteen = inr refl
