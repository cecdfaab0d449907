-- Sums and extremes over the numbers below a bound, and the first number that passes a test.
use Rattle.std.specs.Prelude.{ℕ, zero, suc, ◌+◌, ◌-◌, max, ℤ, Bool, List, Option, None, Some}
use Rattle.std.specs.Int.{int_min}
use Rattle.std.specs.List.{find, range_with_len}

-- the sum of f over the numbers below n
unfoldable pub total : (ℕ → ℕ) → ℕ → ℕ
total f zero = 0
total f (suc n) = total f n + f n

-- the greater of two, of which each may be missing
abbrev pub greater : Option ℕ → Option ℕ → Option ℕ
greater None y = y
greater (Some x) None = Some x
greater (Some x) (Some y) = Some (max x y)

-- the greatest value that f has below n
unfoldable pub greatest : (ℕ → Option ℕ) → ℕ → Option ℕ
greatest f zero = None
greatest f (suc n) = greater (greatest f n) (f n)

-- the lesser of two, and the least value below n
abbrev pub lesser : Option ℤ → Option ℤ → Option ℤ
lesser None y = y
lesser (Some x) None = Some x
lesser (Some x) (Some y) = Some (int_min x y)

unfoldable pub least : (ℕ → Option ℤ) → ℕ → Option ℤ
least f zero = None
least f (suc n) = lesser (least f n) (f n)

-- the numbers from one on that are below another
abbrev pub span : ℕ → ℕ → List ℕ
span low high = range_with_len low (high - low)

-- the first of them that passes a test
unfoldable pub first_in : (ℕ → Bool) → ℕ → ℕ → Option ℕ
first_in test low high = find test (span low high)
