-- Sums and extremes over one number more.
use Rattle.std.proofs.Common.{◌≡◌, ℕ, zero, suc, ◌+◌, ◌*◌, ◌≤◌, ℤ, Option, None, refl, sym, ap, ap₂, ◌∙◌, arith}
use Rattle.node_grid.specs.NumberFacts.{next_is}
use Rattle.run_judged.specs.Numbers.{total, greater, greatest, lesser, least}

pub total_more : (f : ℕ → ℕ) (n : ℕ) → total f (n + 1) ≡ total f n + f n
unfolding total
total_more f n = ap (total f) (next_is n)

pub greatest_more : (f : ℕ → Option ℕ) (n : ℕ) → greatest f (n + 1) ≡ greater (greatest f n) (f n)
unfolding greatest
greatest_more f n = ap (greatest f) (next_is n)

pub least_more : (f : ℕ → Option ℤ) (n : ℕ) → least f (n + 1) ≡ lesser (least f n) (f n)
unfolding least
least_more f n = ap (least f) (next_is n)

pub greatest_none : (f : ℕ → Option ℕ) → None ≡ greatest f 0
unfolding greatest
greatest_none f = refl

pub greatest_next : (f : ℕ → Option ℕ) (n : ℕ) (m v r : Option ℕ) → m ≡ greatest f n → v ≡ f n → r ≡ greater m v → r ≡ greatest f (n + 1)
greatest_next f n m v r a b e = e ∙ ap₂ greater a b ∙ sym (greatest_more f n)

-- a sum of numbers that are no greater than b
pub total_le : (f : ℕ → ℕ) (b n : ℕ) → ((k : ℕ) → f k ≤ b) → total f n ≤ b * n
unfolding total
total_le f b zero h = omega arith
total_le f b (suc n) h = omega (arith, total_le f b n h, h n)
