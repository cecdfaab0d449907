-- Rows of values, by member.
use Rattle.std.proofs.Common.{ℕ, ◌≢◌, ◌<◌, ◌≤◌, ◌+◌, ◌*◌, ◌⊎◌, inl, inr, arith}
use Rattle.std.proofs.lemmas.Bool.{cases_lt}
use Rattle.std.proofs.Math.Nat.{mul-le-mul}

next_row : (n c k : ℕ) → k < c → k * n + n ≤ c * n
next_row n c k l =
    let below : k + 1 ≤ c = omega arith in
    let same : n ≤ n = omega arith in
    let m : (k + 1) * n ≤ c * n = mul-le-mul below same in
    omega (arith, m)

-- a place in another row
pub rows_apart : (n c k i : ℕ) → k ≢ c → i < n → (k * n + i < c * n) ⊎ (c * n + n ≤ k * n + i)
rows_apart n c k i ne low = elim (cases_lt k c) [
  | inl before ↦ inl (let m = next_row n c k before in omega arith)
  | inr after ↦ inr (let m = next_row n k c (omega (arith, ne, after)) in omega arith)
]

pub row_within : (n c : ℕ) → c < n → c * n + n ≤ n * n
row_within n c l = next_row n n c l
