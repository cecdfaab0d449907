-- Zeros, joined by commas.
use Rattle.std.proofs.Common.{◌≡◌, ◌<◌, ◌≤◌, ◌+◌, ◌*◌, ◌-◌, ℕ, zero, suc, List, [], ◌∷◌, ◌++◌, length, map, take, get_or, replicate, refl, sym, ap, ap₂, ◌∙◌, arith}
use Rattle.std.specs.Prelude.{codes, decimal}
use Rattle.std.specs.List.{flat_map}
use Rattle.std.proofs.lemmas.Fmt.{decimal_digit}
use Rattle.run_text.specs.Text.{numbers_text}

-- a comma and a zero, so often
abbrev further_zeros : ℕ → List ℕ
further_zeros zero = []
further_zeros (suc k) = 44 ∷ 48 ∷ further_zeros k

further_text : (k : ℕ) → flat_map (λ y. codes "," ++ y) (map decimal (replicate k 0)) ≡ further_zeros k
further_text zero = refl
further_text (suc k) = rw (decimal_digit 0 (omega arith)) (ap (λ xs. 44 ∷ 48 ∷ xs) (further_text k))

taken : (k more : ℕ) → take (2 * k) (further_zeros (k + more)) ≡ further_zeros k
taken zero more = refl
taken (suc k) more = let twice : 2 * suc k ≡ suc (suc (2 * k)) = omega arith in let sum : suc k + more ≡ suc (k + more) = omega arith in rw (twice, sum) (ap (λ xs. 44 ∷ 48 ∷ xs) (taken k more))

-- the front of a row of 16 zeros
pub zeros_text : (n : ℕ) → 0 < n → n ≤ 16 → numbers_text (replicate n 0) ≡ take (2 * n - 1) (codes "0,0,0,0,0,0,0,0,0,0,0,0,0,0,0,0")
zeros_text zero h l = absurd (omega (arith, h))
zeros_text (suc k) h l =
    let last : 2 * suc k - 1 ≡ suc (2 * k) = omega arith in
    let all : k + (15 - k) ≡ 15 = omega arith in
    rw (last, decimal_digit 0 (omega arith)) (ap (λ xs. 48 ∷ xs) (further_text k ∙ sym (taken k (15 - k)) ∙ ap (λ (m : ℕ). take (2 * k) (further_zeros m)) all))

-- numbers that are at most 0
pub all_zero : (xs : List ℕ) → ((k : ℕ) → k < length xs → get_or xs k 0 ≤ 0) → xs ≡ replicate (length xs) 0
all_zero [] h = refl
all_zero (x ∷ xs) h =
    let least : x ≤ 0 = h 0 (omega arith) in
    ap₂ (λ (y : ℕ) (ys : List ℕ). y ∷ ys) (omega (arith, least)) (all_zero xs (λ k less. h (suc k) (omega (arith, less))))
