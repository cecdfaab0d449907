-- Numbers below 100 in decimal, and the nodes below a number.
use Rattle.std.proofs.Common.{◌≡◌, ℕ, zero, suc, ◌+◌, ◌*◌, ◌-◌, ◌/◌, ◌%◌, ◌<◌, ◌≤◌, Bool, true, false, List, [], ◌∷◌, ◌++◌, length, map, take, get_or, nat_lt, refl, sym, ap, ap₂, ◌∙◌, arith, inl, inr}
use Rattle.std.specs.Prelude.{codes, decimal}
use Rattle.std.specs.List.{range_with_len}
use Rattle.std.proofs.lemmas.Bool.{cases_lt}
use Rattle.std.proofs.lemmas.Fmt.{decimal_digit, decimal_step}
use Rattle.std.proofs.lemmas.List.FromFn.{get_or-map-range_with_len}
use Rattle.node_grid.specs.NodeSet.{ids_below}
use Rattle.run_text.specs.Text.{separated, numbers_text, set_text}

pub two : (n : ℕ) → 10 ≤ n → n < 100 → decimal n ≡ (48 + n / 10) ∷ (48 + n % 10) ∷ []
two n from below =
    decimal_step n from (omega (arith, below)) ∙ ap (λ (tens : List ℕ). tens ++ ((48 + n % 10) ∷ [])) (decimal_digit (n / 10) (omega (arith, below)))

abbrev spell_if : Bool → ℕ → List ℕ
spell_if true n = (48 + n) ∷ []
spell_if false n = (48 + n / 10) ∷ (48 + n % 10) ∷ []

abbrev spell : ℕ → List ℕ
spell n = spell_if (nat_lt n 10) n

spelled : (n : ℕ) → n < 100 → decimal n ≡ spell n
spelled n below = elim (cases_lt n 10) [
  | inl low ↦ let short : nat_lt n 10 ≡ true = grind (arith, low) in decimal_digit n low ∙ sym (ap (λ (b : Bool). spell_if b n) short)
  | inr high ↦ let long : nat_lt n 10 ≡ false = grind (arith, high) in two n high below ∙ sym (ap (λ (b : Bool). spell_if b n) long)
]

all_spelled : (a n : ℕ) → a + n ≤ 100 → map decimal (range_with_len a n) ≡ map spell (range_with_len a n)
all_spelled a zero h = refl
all_spelled a (suc n) h = ap₂ (λ (y : List ℕ) (ys : List (List ℕ)). y ∷ ys) (spelled a (omega (arith, h))) (all_spelled (a + 1) n (omega (arith, h)))

abbrev front : ℕ → List ℕ
front n = take (2 * n - 1 + (n - 10)) (codes "0,1,2,3,4,5,6,7,8,9,10,11,12,13,14,15")

abbrev nodes : ℕ → List ℕ
nodes n = separated (codes ",") (map spell (ids_below n))

fronts : map front (ids_below 17) ≡ map nodes (ids_below 17)
fronts = refl

-- the text of the nodes below a number
pub first_text : (n : ℕ) → n ≤ 16 → take (2 * n - 1 + (n - 10)) (codes "0,1,2,3,4,5,6,7,8,9,10,11,12,13,14,15") ≡ numbers_text (ids_below n)
first_text n few =
    sym (get_or-map-range_with_len front 0 17 n n [] (omega (arith, few)) (omega arith))
    ∙ ap (λ (texts : List (List ℕ)). get_or texts n []) fronts
    ∙ get_or-map-range_with_len nodes 0 17 n n [] (omega (arith, few)) (omega arith)
    ∙ ap (separated (codes ",")) (sym (all_spelled 0 n (omega (arith, few))))

-- a set with members, and one without
pub some_set : (xs : List ℕ) (n : ℕ) → n ≡ length xs → 0 < n → set_text xs ≡ numbers_text xs
some_set [] n e h = absurd (omega (arith, e, h))
some_set (x ∷ xs) n e h = refl

pub no_set : (xs : List ℕ) → 0 ≡ length xs → set_text xs ≡ codes "-"
no_set [] e = refl
no_set (x ∷ xs) e = absurd (omega (arith, e))
