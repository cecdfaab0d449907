-- The numbers of lines, the first being 1. A number stands still at 2^64 - 1.
use Rattle.std.proofs.Common.{◌≡◌, ℕ, ◌+◌, ◌-◌, ◌^◌, List, [], ◌∷◌, ◌++◌, refl}
use Rattle.std.specs.Prelude.{min}

-- the number of the line behind this one
abbrev pub next_number : ℕ → ℕ
next_number n = min (n + 1) (2 ^ 64 - 1)

-- and of the line behind these, the first of which has this number
abbrev pub number_behind : ℕ → List (List ℕ) → ℕ
number_behind n [] = n
number_behind n (line ∷ lines) = number_behind (next_number n) lines

pub number_behind_both : (n : ℕ) (lines more : List (List ℕ)) → number_behind n (lines ++ more) ≡ number_behind (number_behind n lines) more
number_behind_both n [] more = refl
number_behind_both n (line ∷ lines) more = number_behind_both (next_number n) lines more
