-- Lemmas for callers: the mask of the tasks that pass a test has exactly their bits.
use Rattle.std.proofs.Common.{ℕ, zero, suc, ◌≡◌, ◌<◌, ◌+◌, ◌*◌, ◌/◌, ◌%◌, ◌^◌, Bool, true, false, ◌==◌, ◌∷◌, filter, refl, sym, ap, ◌∙◌, inl, inr, arith, pow-suc}
use Rattle.std.specs.List.{range_with_len, sum_by}
use Rattle.std.specs.Int.{bit_at}
use Rattle.std.proofs.lemmas.Bool.{cases_Bool, cond-true, cond-false}
use Rattle.std.proofs.lemmas.List.Sums.{sum_by-cons}
use Rattle.std.proofs.lemmas.Nat.Bits.{bit_at_lowest, bit_at-suc}
use Rattle.node_grid.specs.NodeSet.{ids_where, mask_of}
use Rattle.node_grid.specs.Count.{bit}

-- the bits of the numbers from a on that pass, as a number
abbrev tally : (ℕ → Bool) → ℕ → ℕ → ℕ
tally f a zero = 0
tally f a (suc n) = bit (f a) + 2 * tally f (a + 1) n

bit_small : (b : Bool) → bit b < 2
bit_small true = omega arith
bit_small false = omega arith

double : (a t : ℕ) → 2 ^ (a + 1) * t ≡ 2 ^ a * (2 * t)
double a t = let e : a + 1 ≡ suc a = omega arith in let p = pow-suc 2 a in rw (e, p) (omega arith)

mask_is : (f : ℕ → Bool) (a n : ℕ) → sum_by (λ k. 2 ^ k) (filter f (range_with_len a n)) ≡ 2 ^ a * tally f a n
mask_is f a zero = omega arith
mask_is f a (suc n) =
    let rest = mask_is f (a + 1) n in
    let d = double a (tally f (a + 1) n) in
    elim (cases_Bool (f a)) [
      | inl keeps ↦
          let e = ap (sum_by (λ k. 2 ^ k)) (cond-true (f a) (a ∷ filter f (range_with_len (a + 1) n)) (filter f (range_with_len (a + 1) n)) keeps) in
          let c = sum_by-cons (λ k. 2 ^ k) a (filter f (range_with_len (a + 1) n)) in
          let b : bit (f a) ≡ 1 = ap bit keeps in
          e ∙ c ∙ rw (rest, d, b) (omega arith)
      | inr drops ↦
          let e = ap (sum_by (λ k. 2 ^ k)) (cond-false (f a) (a ∷ filter f (range_with_len (a + 1) n)) (filter f (range_with_len (a + 1) n)) drops) in
          let b : bit (f a) ≡ 0 = ap bit drops in
          e ∙ rw (rest, d, b) (omega arith)
    ]

tally_bit : (f : ℕ → Bool) (a n d : ℕ) → d < n → bit_at (tally f a n) d ≡ bit (f (a + d))
tally_bit f a zero d h = absurd (omega arith)
tally_bit f a (suc n) zero h =
    let b = bit_small (f a) in
    let e : (bit (f a) + 2 * tally f (a + 1) n) % 2 ≡ bit (f a) = omega arith in
    let z : a + 0 ≡ a = omega arith in
    bit_at_lowest (bit (f a) + 2 * tally f (a + 1) n) ∙ e ∙ ap (λ (x : ℕ). bit (f x)) (sym z)
tally_bit f a (suc n) (suc d) h =
    let b = bit_small (f a) in
    let e : (bit (f a) + 2 * tally f (a + 1) n) / 2 ≡ tally f (a + 1) n = omega arith in
    let s : a + 1 + d ≡ a + suc d = omega arith in
    bit_at-suc (bit (f a) + 2 * tally f (a + 1) n) d ∙ ap (λ (x : ℕ). bit_at x d) e ∙ tally_bit f (a + 1) n d (omega arith) ∙ ap (λ (x : ℕ). bit (f x)) s

mask_tally : (f : ℕ → Bool) (n : ℕ) → mask_of (ids_where f n) ≡ tally f 0 n
mask_tally f n = mask_is f 0 n ∙ omega arith

bit_test : (b : Bool) → (bit b == 1) ≡ b
bit_test true = refl
bit_test false = refl

pub mask_bit : (f : ℕ → Bool) (n k : ℕ) → k < n → (bit_at (mask_of (ids_where f n)) k == 1) ≡ f k
mask_bit f n k h = ap (λ (m : ℕ). bit_at m k == 1) (mask_tally f n) ∙ ap (λ (x : ℕ). x == 1) (tally_bit f 0 n k h ∙ ap (λ (x : ℕ). bit (f x)) (omega arith)) ∙ bit_test (f k)
