-- Sets of small numbers as filters of a range, and as the bits of a mask.
use Rattle.std.proofs.Common.{◌≡◌, ◌≢◌, ℕ, zero, suc, ◌+◌, ◌-◌, ◌*◌, ◌/◌, ◌%◌, ◌^◌, ◌<◌, ◌≤◌, min, max, Bool, true, false, cond, not, ◌&&◌, ◌||◌, List, [], ◌∷◌, length, drop, refl, sym, ap, ◌∙◌, arith, eq-eqb, bit_and, bit_or, inl, inr, subst}
use Rattle.std.specs.Prelude.{◌==◌, nat_lt}
use Rattle.std.specs.Int.RustNames.{count_ones}
use Rattle.std.specs.List.{filter, range_with_len, sum_by, count_by, list_all, All}
use Rattle.std.specs.Int.{bit_at, bit_not, w16, trailing_zeros}
use Rattle.std.specs.Int.Count.{ones_step}
use Rattle.std.proofs.Math.Bool.{and-true, and-false}
use Rattle.std.proofs.lemmas.Bool.{cases_lt, cases_eq, and_left, and_right, ne_eqb, eqb-true, lt-ltb, le-ltb}
use Rattle.std.proofs.lemmas.List.Sums.{sum_by-cons, length-filter, count_by-le-length}
use Rattle.std.proofs.lemmas.List.FromFn.{length-range_with_len}
use Rattle.std.proofs.lemmas.List.Elements.{All-filter, All-same, All-nil, All-cons}
use Rattle.std.proofs.lemmas.Map.Views.{any-filter_same}
use Rattle.std.proofs.lemmas.Nat.Bits.{bit_at_above, bit_at_ones, bit_at_ones_above, bit_at_set_same, bit_at_set_other, bit_at_clear_same, bit_at_clear_other, bit_at-trailing_zeros, bit_at-zero, bit_at-suc, bit_at-lt, bit_at_and, bit_at_or, bit_at_not, shr_and_one}
use Rattle.std.proofs.Math.Nat.{div-div-eq-div-mul, div-eq_of_lt, pow-suc}
use Rattle.std.proofs.Math.Pow.{pow_mono, pow-lt, ones_lt}
use Rattle.std.proofs.lemmas.Nat.{or_lt, and_le_l}
use Rattle.std.specs.Cmp.Lexicographic.{pointwise}
use Rattle.std.proofs.lemmas.Slice.Eq.{bytes_eq-Decides}
use Rattle.node_grid.specs.Count.{bit, count}
use Rattle.node_grid.specs.NodeSet.{ids_below, has_id, with_id, without_id, bits_set, mask_of, IsIdSet, ids_where, ids_where_below, union_of, minus_of, common_of, place_of}

by_le : {P : Type 0} (a b : ℕ) → (a ≤ b → P) → (b < a → P) → P
by_le {P} a b f g = elim (cases_lt b a) as (λ _. P) [ inl h ↦ g h | inr h ↦ f h ]

by_equal : {P : Type 0} (a b : ℕ) → (a ≡ b → P) → (a ≢ b → P) → P
by_equal {P} a b f g = elim (a == b) as (λ x. (a == b) ≡ x → P) [
  | true ↦ λ e. f (eqb-true a b e)
  | false ↦ λ e. g (λ s. let t : (a == b) ≡ true = eq-eqb a b s in cc)
] refl

All-range : (a n m : ℕ) → a + n ≤ m → All (λ k. k < m) (range_with_len a n)
All-range a zero m h = All-nil (λ k. k < m)
All-range a (suc n) m h = All-cons (λ k. k < m) a (range_with_len (a + 1) n) (omega arith) (All-range (a + 1) n m (omega arith))

-- two tests that agree on a range keep the same numbers
pub filter_range : (p q : ℕ → Bool) (a n : ℕ) → ((k : ℕ) → a ≤ k → k < a + n → p k ≡ q k) → filter p (range_with_len a n) ≡ filter q (range_with_len a n)
filter_range p q a zero h = refl
filter_range p q a (suc n) h =
    let e : p a ≡ q a = h a (omega arith) (omega arith) in
    let r : filter p (range_with_len (a + 1) n) ≡ filter q (range_with_len (a + 1) n) = filter_range p q (a + 1) n (λ k l u. h k (omega arith) (omega arith)) in
    rw (e, r) refl

pub filter_none : (p : ℕ → Bool) (a n : ℕ) → ((k : ℕ) → a ≤ k → k < a + n → p k ≡ false) → filter p (range_with_len a n) ≡ []
filter_none p a zero h = refl
filter_none p a (suc n) h =
    let e : p a ≡ false = h a (omega arith) (omega arith) in
    rw e (filter_none p (a + 1) n (λ k l u. h k (omega arith) (omega arith)))

pub filter_every : (p : ℕ → Bool) (a n : ℕ) → ((k : ℕ) → a ≤ k → k < a + n → p k ≡ true) → filter p (range_with_len a n) ≡ range_with_len a n
filter_every p a zero h = refl
filter_every p a (suc n) h =
    let e : p a ≡ true = h a (omega arith) (omega arith) in
    rw e (ap (λ xs. a ∷ xs) (filter_every p (a + 1) n (λ k l u. h k (omega arith) (omega arith))))

-- a test that passes below a + m alone
pub filter_front : (p : ℕ → Bool) (a m n : ℕ) → m ≤ n → ((k : ℕ) → a ≤ k → k < a + m → p k ≡ true) → ((k : ℕ) → a + m ≤ k → k < a + n → p k ≡ false)
    → filter p (range_with_len a n) ≡ range_with_len a m
filter_front p a zero n h inside outside = filter_none p a n (λ k l u. outside k (omega arith) u)
filter_front p a (suc m) zero h inside outside = absurd (omega arith)
filter_front p a (suc m) (suc n) h inside outside =
    let e : p a ≡ true = inside a (omega arith) (omega arith) in
    rw e (ap (λ xs. a ∷ xs) (filter_front p (a + 1) m n (omega arith) (λ k l u. inside k (omega arith) (omega arith)) (λ k l u. outside k (omega arith) (omega arith))))

pub filter_filter : (p q : ℕ → Bool) (xs : List ℕ) → filter q (filter p xs) ≡ filter (λ x. p x && q x) xs
filter_filter p q [] = refl
filter_filter p q (x ∷ xs) =
    elim (p x) as (λ b. filter q (cond b (x ∷ filter p xs) (filter p xs)) ≡ cond (b && q x) (x ∷ filter (λ y. p y && q y) xs) (filter (λ y. p y && q y) xs)) [
      | true ↦ rw (filter_filter p q xs) refl
      | false ↦ filter_filter p q xs
    ]

-- a range has the numbers in it
pub has-range : (a n x : ℕ) → a ≤ x → x < a + n → has_id (range_with_len a n) x ≡ true
has-range a zero x l u = absurd (omega arith)
has-range a (suc n) x l u =
    elim (a == x) as (λ b. (a == x) ≡ b → (b || has_id (range_with_len (a + 1) n) x) ≡ true) [
      | true ↦ λ e. refl
      | false ↦ λ e. let ne : a ≢ x = λ s. let t : (a == x) ≡ true = eq-eqb a x s in cc in has-range (a + 1) n x (omega arith) (omega arith)
    ] refl

hasnt-range : (a n x : ℕ) → a + n ≤ x → has_id (range_with_len a n) x ≡ false
hasnt-range a zero x l = refl
hasnt-range a (suc n) x l = rw (ne_eqb a x (λ s. omega arith)) (hasnt-range (a + 1) n x (omega arith))

pub has_filtered : (p : ℕ → Bool) (xs : List ℕ) (x : ℕ) → has_id (filter p xs) x ≡ (p x && has_id xs x)
has_filtered p xs x = any-filter_same (λ y. y == x) p (p x) (λ k e. ap p (eqb-true k x e)) xs

pub has-filter : (p : ℕ → Bool) (n x : ℕ) → x < n → has_id (filter p (ids_below n)) x ≡ p x
has-filter p n x h = has_filtered p (ids_below n) x ∙ rw (has-range 0 n x (omega arith) (omega arith)) (and-true (p x))

pub hasnt-filter : (p : ℕ → Bool) (n x : ℕ) → n ≤ x → has_id (filter p (ids_below n)) x ≡ false
hasnt-filter p n x h = has_filtered p (ids_below n) x ∙ rw (hasnt-range 0 n x (omega arith)) (and-false (p x))

-- who is in a set by a test passes it
pub passes_where : (f : ℕ → Bool) (n q : ℕ) → has_id (ids_where f n) q ≡ true → f q ≡ true
passes_where f n q on = elim (cases_lt q n) [
  | inl low ↦ sym (has-filter f n q low) ∙ on
  | inr high ↦ let e = sym (hasnt-filter f n q high) ∙ on in cc
]

-- the least number that passes comes first, and the others follow
pub filter_first : (p : ℕ → Bool) (a n t : ℕ) → a ≤ t → t < a + n → p t ≡ true → ((k : ℕ) → a ≤ k → k < t → p k ≡ false)
    → filter p (range_with_len a n) ≡ t ∷ filter (λ k. p k && not (k == t)) (range_with_len a n)
filter_first p a zero t l u y h = absurd (omega arith)
filter_first p a (suc n) t l u y h =
    elim (a == t) as (λ b. (a == t) ≡ b → cond (p a) (a ∷ filter p (range_with_len (a + 1) n)) (filter p (range_with_len (a + 1) n))
    ≡ t ∷ cond (p a && not b) (a ∷ filter (λ k. p k && not (k == t)) (range_with_len (a + 1) n)) (filter (λ k. p k && not (k == t)) (range_with_len (a + 1) n))) [
      | true ↦ λ e.
          let s : a ≡ t = eqb-true a t e in
          let pa : p a ≡ true = ap p s ∙ y in
          let rest : filter p (range_with_len (a + 1) n) ≡ filter (λ k. p k && not (k == t)) (range_with_len (a + 1) n) =
          filter_range p (λ k. p k && not (k == t)) (a + 1) n (λ k l' u'. rw (ne_eqb k t (λ q. omega arith)) (sym (and-true (p k)))) in
          rw (pa, rest, s) refl
      | false ↦ λ e.
          let ne : a ≢ t = λ s. let v : (a == t) ≡ true = eq-eqb a t s in cc in
          let pa : p a ≡ false = h a (omega arith) (omega arith) in
          rw pa (filter_first p (a + 1) n t (omega arith) (omega arith) y (λ k l' u'. h k (omega arith) u'))
    ] refl

-- ---- masks

odd_step : (q w : ℕ) → (q % 2 ≡ 1) → w + q / 2 * (w * 2) ≡ q * w
odd_step q w h = let e : q ≡ q / 2 * 2 + 1 = omega arith in omega (arith, ap (λ z. z * w) e)

even_step : (q w : ℕ) → (q % 2 ≢ 1) → q / 2 * (w * 2) ≡ q * w
even_step q w h = let e : q ≡ q / 2 * 2 = omega arith in omega (arith, ap (λ z. z * w) e)

next_power : (i : ℕ) → 2 ^ (i + 1) ≡ 2 ^ i * 2
next_power i = let e : i + 1 ≡ suc i = omega arith in rw e (pow-suc 2 i)

next_quotient : (mask i : ℕ) → mask / 2 ^ (i + 1) ≡ mask / 2 ^ i / 2
next_quotient mask i = rw (next_power i) (sym (div-div-eq-div-mul mask (2 ^ i) 2))

further : (mask i n : ℕ) → mask < 2 ^ (i + suc n) → mask < 2 ^ (i + 1 + n)
further mask i n h = let e : i + suc n ≡ i + 1 + n = omega arith in rw e at h

-- what the bits from i on are worth
above : (i n mask : ℕ) → mask < 2 ^ (i + n) → sum_by (λ k. 2 ^ k) (filter (λ k. bit_at mask k == 1) (range_with_len i n)) ≡ mask / 2 ^ i * 2 ^ i
above i zero mask h = let e : i + 0 ≡ i = omega arith in let l : mask < 2 ^ i = rw e at h in rw (div-eq_of_lt l) (omega arith)
above i (suc n) mask h =
    let q : ℕ = mask / 2 ^ i in
    let rest : List ℕ = filter (λ k. bit_at mask k == 1) (range_with_len (i + 1) n) in
    let r : sum_by (λ k. 2 ^ k) rest ≡ q / 2 * (2 ^ i * 2) =
    above (i + 1) n mask (further mask i n h) ∙ rw (next_quotient mask i, next_power i) refl in
    elim (q % 2 == 1) as (λ b. (q % 2 == 1) ≡ b → sum_by (λ k. 2 ^ k) (cond b (i ∷ rest) rest) ≡ q * 2 ^ i) [
      | true ↦ λ e. let o : q % 2 ≡ 1 = eqb-true (q % 2) 1 e in
          sum_by-cons (λ k. 2 ^ k) i rest ∙ rw r (odd_step q (2 ^ i) o)
      | false ↦ λ e. let o : q % 2 ≢ 1 = λ s. let t : (q % 2 == 1) ≡ true = eq-eqb (q % 2) 1 s in cc in
          r ∙ even_step q (2 ^ i) o
    ] refl

pub mask_of-bits_set : (n mask : ℕ) → mask < 2 ^ n → mask_of (bits_set n mask) ≡ mask
mask_of-bits_set n mask h = above 0 n mask (let e : 0 + n ≡ n = omega arith in rw e h) ∙ omega arith

bit_count : (b c : ℕ) → b < 2 → cond (b == 1) 1 0 + c ≡ b + c
bit_count b c h = grind arith

ones_above : (i n mask : ℕ) → mask < 2 ^ (i + n) → count_by (λ k. bit_at mask k == 1) (range_with_len i n) ≡ count_ones (mask / 2 ^ i)
unfolding count_ones
ones_above i zero mask h = let e : i + 0 ≡ i = omega arith in let l : mask < 2 ^ i = rw e at h in rw (div-eq_of_lt l) refl
ones_above i (suc n) mask h =
    let q : ℕ = mask / 2 ^ i in
    let r : count_by (λ k. bit_at mask k == 1) (range_with_len (i + 1) n) ≡ count_ones (q / 2) =
    ones_above (i + 1) n mask (further mask i n h) ∙ rw (next_quotient mask i) refl in
    sum_by-cons (λ k. cond (bit_at mask k == 1) 1 0) i (range_with_len (i + 1) n)
    ∙ rw r (bit_count (q % 2) (count_ones (q / 2)) (omega arith)) ∙ sym (ones_step q)

pub length-bits_set : (n mask : ℕ) → mask < 2 ^ n → length (bits_set n mask) ≡ count_ones mask
length-bits_set n mask h =
    length-filter (λ k. bit_at mask k == 1) (ids_below n)
    ∙ ones_above 0 n mask (let e : 0 + n ≡ n = omega arith in rw e h)
    ∙ ap count_ones (omega arith)

pub has-bits_set : (n mask x : ℕ) → x < n → has_id (bits_set n mask) x ≡ (bit_at mask x == 1)
has-bits_set n mask x h = has-filter (λ k. bit_at mask k == 1) n x h

pub hasnt-bits_set : (n mask x : ℕ) → n ≤ x → has_id (bits_set n mask) x ≡ false
hasnt-bits_set n mask x h = hasnt-filter (λ k. bit_at mask k == 1) n x h

pub bits_set-zero : (n : ℕ) → bits_set n 0 ≡ []
bits_set-zero n = filter_none (λ k. bit_at 0 k == 1) 0 n (λ k l u. rw (bit_at-zero k) refl)

pub bits_set-full : (n m : ℕ) → m ≤ n → bits_set n (2 ^ m - 1) ≡ ids_below m
bits_set-full n m h = filter_front (λ k. bit_at (2 ^ m - 1) k == 1) 0 m n h
    (λ k l u. rw (bit_at_ones m k (omega arith)) refl)
    (λ k l u. rw (bit_at_ones_above m k (omega arith)) refl)

pub bits_set-put : (n mask x : ℕ) → n ≤ 16 → x < n → bits_set n (bit_or mask (1 * 2 ^ x % 2 ^ 16)) ≡ with_id n (bits_set n mask) x
bits_set-put n mask x few h = filter_range _ _ 0 n (λ k l u.
    elim (k == x) as (λ b. (k == x) ≡ b → (bit_at (bit_or mask (1 * 2 ^ x % 2 ^ 16)) k == 1) ≡ (b || has_id (bits_set n mask) k)) [
      | true ↦ λ e. let s : k ≡ x = eqb-true k x e in rw (s, bit_at_set_same w16 mask x (omega arith)) refl
      | false ↦ λ e. let ne : k ≢ x = λ s. let v : (k == x) ≡ true = eq-eqb k x s in cc in
          rw (bit_at_set_other w16 mask x (omega arith) k ne, has-bits_set n mask k (omega arith)) refl
    ] refl)

pub bits_set-cut : (n mask x : ℕ) → n ≤ 16 → x < n → bits_set n (bit_and mask (bit_not w16 (1 * 2 ^ x % 2 ^ 16))) ≡ without_id (bits_set n mask) x
bits_set-cut n mask x few h =
    filter_range _ (λ k. (bit_at mask k == 1) && not (k == x)) 0 n (λ k l u.
    elim (k == x) as (λ b. (k == x) ≡ b → (bit_at (bit_and mask (bit_not w16 (1 * 2 ^ x % 2 ^ 16))) k == 1) ≡ ((bit_at mask k == 1) && not b)) [
      | true ↦ λ e. let s : k ≡ x = eqb-true k x e in rw (s, bit_at_clear_same w16 mask x (omega arith)) (sym (and-false (bit_at mask x == 1)))
      | false ↦ λ e. let ne : k ≢ x = λ s. let v : (k == x) ≡ true = eq-eqb k x s in cc in
          rw (bit_at_clear_other w16 mask x (omega arith) k (omega arith) ne) (sym (and-true (bit_at mask k == 1)))
    ] refl)
    ∙ sym (filter_filter (λ k. bit_at mask k == 1) (λ k. not (k == x)) (ids_below n))

-- the lowest bit that is set is the least member
pub bits_set-first : (n mask : ℕ) → n ≤ 16 → mask < 2 ^ n → mask ≢ 0
    → bits_set n mask ≡ trailing_zeros w16 mask ∷ without_id (bits_set n mask) (trailing_zeros w16 mask)
bits_set-first n mask few h some =
    let t : ℕ = trailing_zeros w16 mask in
    let wide : mask < 2 ^ 16 = omega (arith, pow_mono few) in
    let f = bit_at-trailing_zeros w16 mask (omega arith) wide in
    let one : bit_at mask t ≡ 1 = f.1 in
    let within : t < n = by_le n t (λ l. absurd (let z : bit_at mask t ≡ 0 = bit_at_above mask n t h l in omega arith)) (λ l. l) in
    filter_first (λ k. bit_at mask k == 1) 0 n t (omega arith) (omega arith) (rw one refl) (λ k l u. let z : bit_at mask k ≡ 0 = f.2 k u in rw z refl)
    ∙ ap (λ xs. t ∷ xs) (sym (filter_filter (λ k. bit_at mask k == 1) (λ k. not (k == t)) (ids_below n)))

pub has_bit : (n mask x : ℕ) → mask < 2 ^ n → has_id (bits_set n mask) x ≡ (bit_and (mask / 2 ^ x) 1 == 1)
has_bit n mask x h = by_le n x
    (λ l. hasnt-bits_set n mask x l ∙ rw (shr_and_one mask x, bit_at_above mask n x h l) refl)
    (λ l. has-bits_set n mask x l ∙ rw (shr_and_one mask x) refl)

-- what the code of `full` computes
pub shifted_one : (n : ℕ) → n ≤ 16 → 1 * 2 ^ n % 2 ^ 32 ≡ 2 ^ n
shifted_one n h = omega (arith, pow_mono h)

pub full_fits : (n m : ℕ) → m ≤ n → 2 ^ m - 1 < 2 ^ n
full_fits n m h = omega (arith, pow_mono h, ones_lt m)

pub put_fits : (n mask x : ℕ) → n ≤ 16 → x < n → mask < 2 ^ n → bit_or mask (1 * 2 ^ x % 2 ^ 16) < 2 ^ n
put_fits n mask x few l h = or_lt n mask (1 * 2 ^ x % 2 ^ 16) h
    (let e : 1 * 2 ^ x % 2 ^ 16 ≤ 2 ^ x = mod_le_one (2 ^ x) in omega (arith, pow-lt l))
  where
    mod_le_one : (p : ℕ) → 1 * p % 2 ^ 16 ≤ p
    mod_le_one p = omega arith

-- ---- two sets together, and one without another

pub either_bit : (x y : ℕ) → x < 2 → y < 2 → (max x y == 1) ≡ ((x == 1) || (y == 1))
either_bit x y h l = grind arith

both_bits : (x y : ℕ) → x < 2 → y < 2 → (min x (1 - y) == 1) ≡ ((x == 1) && not (y == 1))
both_bits x y h l = grind arith

pub bits_set-union : (n a b : ℕ) → bits_set n (bit_or a b) ≡ union_of n (bits_set n a) (bits_set n b)
bits_set-union n a b = filter_range _ _ 0 n (λ k l u.
    rw (bit_at_or a b k, has-bits_set n a k (omega arith), has-bits_set n b k (omega arith))
    (either_bit (bit_at a k) (bit_at b k) (bit_at-lt a k) (bit_at-lt b k)))

pub bits_set-minus : (n a b : ℕ) → n ≤ 16 → b < 2 ^ n → bits_set n (bit_and a (bit_not w16 b)) ≡ minus_of (bits_set n a) (bits_set n b)
bits_set-minus n a b few h =
    filter_range _ (λ k. (bit_at a k == 1) && not (has_id (bits_set n b) k)) 0 n (λ k l u.
    let wide : b < 2 ^ 16 = omega (arith, pow_mono few) in
    rw (bit_at_and a (bit_not w16 b) k, bit_at_not w16 b k (omega arith) (omega arith), has-bits_set n b k (omega arith))
    (both_bits (bit_at a k) (bit_at b k) (bit_at-lt a k) (bit_at-lt b k)))
    ∙ sym (filter_filter (λ k. bit_at a k == 1) (λ k. not (has_id (bits_set n b) k)) (ids_below n))

shared_bit : (x y : ℕ) → x < 2 → y < 2 → (min x y == 1) ≡ ((x == 1) && (y == 1))
shared_bit x y h l = grind arith

pub bits_set-common : (n a b : ℕ) → bits_set n (bit_and a b) ≡ common_of (bits_set n a) (bits_set n b)
bits_set-common n a b =
    filter_range _ (λ k. (bit_at a k == 1) && has_id (bits_set n b) k) 0 n (λ k l u.
    rw (bit_at_and a b k, has-bits_set n b k (omega arith))
    (shared_bit (bit_at a k) (bit_at b k) (bit_at-lt a k) (bit_at-lt b k)))
    ∙ sym (filter_filter (λ k. bit_at a k == 1) (λ k. has_id (bits_set n b) k) (ids_below n))

-- ---- the members below a number

cut_bit : (x : ℕ) → x < 2 → (min x 1 == 1) ≡ (x == 1)
cut_bit x h = grind arith

no_bit : (x : ℕ) → (min x 0 == 1) ≡ false
no_bit x = grind arith

pub bits_set-below : (n mask x : ℕ) → bits_set n (bit_and mask (2 ^ x - 1)) ≡ filter (λ k. nat_lt k x) (bits_set n mask)
bits_set-below n mask x =
    filter_range _ (λ k. (bit_at mask k == 1) && nat_lt k x) 0 n (λ k l u. by_le x k
    (λ le. rw (bit_at_and mask (2 ^ x - 1) k, bit_at_ones_above x k le, le-ltb k x le) (no_bit (bit_at mask k) ∙ sym (and-false (bit_at mask k == 1))))
    (λ lt. rw (bit_at_and mask (2 ^ x - 1) k, bit_at_ones x k lt, lt-ltb k x lt) (cut_bit (bit_at mask k) (bit_at-lt mask k) ∙ sym (and-true (bit_at mask k == 1)))))
    ∙ sym (filter_filter (λ k. bit_at mask k == 1) (λ k. nat_lt k x) (ids_below n))

pub place-ones : (n mask x : ℕ) → mask < 2 ^ n → count_ones (bit_and mask (2 ^ x - 1)) ≡ place_of (bits_set n mask) x
place-ones n mask x h =
    sym (length-bits_set n (bit_and mask (2 ^ x - 1)) (omega (arith, and_le_l mask (2 ^ x - 1)))) ∙ ap length (bits_set-below n mask x)

-- what the code of `place` computes
pub shifted_short : (n x : ℕ) → n ≤ 16 → x < n → 1 * 2 ^ x % 65536 ≡ 2 ^ x
shifted_short n x few h = omega (arith, pow-lt (let l : x < 16 = omega arith in l))

-- ---- the set without its least member

halves : (m : ℕ) → m % 2 ≡ 0 → 0 < m → ((m - 1) / 2 ≡ m / 2 - 1) × ((m - 1) % 2 ≡ 1)
halves m even some = (omega arith, omega arith)

-- one less turns the lowest bit that is set off, and those below it on
pub less_below : (t m k : ℕ) → 0 < m → bit_at m t ≡ 1 → ((i : ℕ) → i < t → bit_at m i ≡ 0) → t < k → bit_at (m - 1) k ≡ bit_at m k
less_below t m zero some one low later = absurd (omega arith)
less_below zero m (suc k) some one low later =
    let odd : m % 2 ≡ 1 = omega (arith, one) in
    let half : (m - 1) / 2 ≡ m / 2 = omega arith in
    bit_at-suc (m - 1) k ∙ ap (λ n. bit_at n k) half ∙ sym (bit_at-suc m k)
less_below (suc t) m (suc k) some one low later =
    let even : m % 2 ≡ 0 = omega (arith, low 0 (omega arith)) in
    let half = halves m even some in
    bit_at-suc (m - 1) k ∙ ap (λ n. bit_at n k) half.0
    ∙ less_below t (m / 2) k (omega arith) (sym (bit_at-suc m t) ∙ one) (λ i l. sym (bit_at-suc m i) ∙ low (suc i) (omega arith)) (omega arith)
    ∙ sym (bit_at-suc m k)

pub less_at : (t m : ℕ) → 0 < m → bit_at m t ≡ 1 → ((i : ℕ) → i < t → bit_at m i ≡ 0) → bit_at (m - 1) t ≡ 0
less_at zero m some one low = omega (arith, one)
less_at (suc t) m some one low =
    let even : m % 2 ≡ 0 = omega (arith, low 0 (omega arith)) in
    let half = halves m even some in
    bit_at-suc (m - 1) t ∙ ap (λ n. bit_at n t) half.0
    ∙ less_at t (m / 2) (omega arith) (sym (bit_at-suc m t) ∙ one) (λ i l. sym (bit_at-suc m i) ∙ low (suc i) (omega arith))

none_kept : (x y : ℕ) → x ≡ 0 → (min x y == 1) ≡ (x == 1)
none_kept x y e = grind arith

same_kept : (x y : ℕ) → y ≡ x → (min x y == 1) ≡ (x == 1)
same_kept x y e = grind arith

bits_set-rest : (n mask : ℕ) → n ≤ 16 → mask < 2 ^ n → mask ≢ 0 → bits_set n (bit_and mask (mask - 1)) ≡ without_id (bits_set n mask) (trailing_zeros w16 mask)
bits_set-rest n mask few h some =
    let t : ℕ = trailing_zeros w16 mask in
    let wide : mask < 2 ^ 16 = omega (arith, pow_mono few) in
    let f = bit_at-trailing_zeros w16 mask (omega arith) wide in
    let one : bit_at mask t ≡ 1 = f.1 in
    filter_range _ (λ k. (bit_at mask k == 1) && not (k == t)) 0 n (λ k l u. by_equal k t
    (λ e. let gone : bit_at (mask - 1) k ≡ 0 = ap (bit_at (mask - 1)) e ∙ less_at t mask (omega arith) one f.2 in
    rw (bit_at_and mask (mask - 1) k, gone, eq-eqb k t e) (no_bit (bit_at mask k) ∙ sym (and-false (bit_at mask k == 1))))
    (λ ne. rw (bit_at_and mask (mask - 1) k, ne_eqb k t ne) (by_le t k
    (λ le. same_kept (bit_at mask k) (bit_at (mask - 1) k) (less_below t mask k (omega arith) one f.2 (omega arith)))
    (λ lt. none_kept (bit_at mask k) (bit_at (mask - 1) k) (f.2 k lt))
    ∙ sym (and-true (bit_at mask k == 1)))))
    ∙ sym (filter_filter (λ k. bit_at mask k == 1) (λ k. not (k == t)) (ids_below n))

wrapped_less : (mask : ℕ) → mask < 65536 → mask ≢ 0 → (mask + 65535) % 65536 ≡ mask - 1
wrapped_less mask h some = omega arith

pub bits_set-drop : (n mask : ℕ) (s : List ℕ) → n ≤ 16 → mask < 2 ^ n → bits_set n mask ≡ s → bits_set n (bit_and mask ((mask + 65535) % 65536)) ≡ drop 1 s
bits_set-drop n mask s few h is = by_equal mask 0
    (λ e. let none : bit_and mask ((mask + 65535) % 65536) ≡ 0 = omega (arith, e, and_le_l mask ((mask + 65535) % 65536)) in
    let empty : bits_set n mask ≡ [] = ap (bits_set n) e ∙ bits_set-zero n in
    ap (bits_set n) none ∙ bits_set-zero n ∙ ap (λ xs. drop 1 xs) (sym empty ∙ is))
    (λ some. let wide : mask < 2 ^ 16 = omega (arith, pow_mono few) in
    ap (λ m. bits_set n (bit_and mask m)) (wrapped_less mask (omega arith) some) ∙ bits_set-rest n mask few h some
    ∙ ap (λ xs. drop 1 xs) (sym (bits_set-first n mask few h some) ∙ is))

-- ---- what callers need

pub IsIdSet-filter : (p : ℕ → Bool) (n : ℕ) → IsIdSet n (filter p (ids_below n))
IsIdSet-filter p n = filter_range p (λ k. has_id (filter p (ids_below n)) k) 0 n (λ k l u. sym (has-filter p n k (omega arith)))

pub IsIdSet-bits_set : (n mask : ℕ) → IsIdSet n (bits_set n mask)
IsIdSet-bits_set n mask = IsIdSet-filter (λ k. bit_at mask k == 1) n

-- two sets with the same members are equal
pub same_ids : (n : ℕ) (s t : List ℕ) → IsIdSet n s → IsIdSet n t → ((k : ℕ) → k < n → has_id s k ≡ has_id t k) → s ≡ t
same_ids n s t hs ht h = hs ∙ filter_range (λ k. has_id s k) (λ k. has_id t k) 0 n (λ k l u. h k (omega arith)) ∙ sym ht

pub has-with_id : (n : ℕ) (s : List ℕ) (x k : ℕ) → k < n → has_id (with_id n s x) k ≡ ((k == x) || has_id s k)
has-with_id n s x k h = has-filter (λ j. (j == x) || has_id s j) n k h

pub has-without_id : (s : List ℕ) (x k : ℕ) → has_id (without_id s x) k ≡ (not (k == x) && has_id s k)
has-without_id s x k = has_filtered (λ j. not (j == x)) s k

pub hasnt-above : (n : ℕ) (s : List ℕ) (k : ℕ) → IsIdSet n s → n ≤ k → has_id s k ≡ false
hasnt-above n s k hs l = ap (λ t. has_id t k) hs ∙ hasnt-filter (λ j. has_id s j) n k l

-- the least member is below n, and a set without it has the others in order
pub first_below : (n : ℕ) (x : ℕ) (rest : List ℕ) → IsIdSet n (x ∷ rest) → x < n
first_below n x rest hs = by_le n x
    (λ l. absurd (let e : has_id (x ∷ rest) x ≡ false = hasnt-above n (x ∷ rest) x hs l in let f : (x == x) ≡ true = eq-eqb x x refl in let g : true ≡ false = rw f at e in cc))
    (λ l. l)

-- what a mask's view says, in the form of the clauses
pub first_of : (n mask : ℕ) (s : List ℕ) → n ≤ 16 → mask < 2 ^ n → mask ≢ 0 → bits_set n mask ≡ s → s ≡ trailing_zeros w16 mask ∷ without_id s (trailing_zeros w16 mask)
first_of n mask s few h some e = rw (← e) (bits_set-first n mask few h some)

pub first_within : (n mask : ℕ) → n ≤ 16 → mask < 2 ^ n → mask ≢ 0 → trailing_zeros w16 mask < n
first_within n mask few h some =
    first_below n (trailing_zeros w16 mask) (without_id (bits_set n mask) (trailing_zeros w16 mask))
    (let P : List ℕ → Type 0 = λ s. IsIdSet n s in subst P (bits_set-first n mask few h some) (IsIdSet-bits_set n mask))

pub IsIdSet-view : (n mask : ℕ) (s : List ℕ) → bits_set n mask ≡ s → IsIdSet n s
IsIdSet-view n mask s e = rw (← e) (IsIdSet-bits_set n mask)

-- two masks are equal where the sets are
pub same_sets : (n a b : ℕ) (s t : List ℕ) → a < 2 ^ n → b < 2 ^ n → bits_set n a ≡ s → bits_set n b ≡ t → (a == b) ≡ pointwise ◌==◌ s t
same_sets n a b s t ha hb ea eb = by_test (a == b) refl (pointwise ◌==◌ s t) refl
  where
    back : s ≡ t → a ≡ b
    back e =
        let x : mask_of (bits_set n a) ≡ a = mask_of-bits_set n a ha in
        let y : mask_of (bits_set n b) ≡ b = mask_of-bits_set n b hb in
        sym x ∙ ap mask_of (ea ∙ e ∙ sym eb) ∙ y

    forth : a ≡ b → s ≡ t
    forth e = sym ea ∙ ap (λ m. bits_set n m) e ∙ eb

    by_test : (x : Bool) → (a == b) ≡ x → (y : Bool) → pointwise ◌==◌ s t ≡ y → x ≡ y
    by_test true p true q = refl
    by_test false p false q = refl
    by_test true p false q = let r : pointwise ◌==◌ s t ≡ true = (bytes_eq-Decides s t).1 (forth (eqb-true a b p)) in cc
    by_test false p true q = let r : (a == b) ≡ true = eq-eqb a b (back ((bytes_eq-Decides s t).0 q)) in cc

-- ---- a loop that builds a set

pub ids_where_none : (p : ℕ → Bool) (n : ℕ) → ids_where_below p n 0 ≡ []
ids_where_none p n = filter_none (λ k. nat_lt k 0 && p k) 0 n (λ k l u. rw (le-ltb k 0 (omega arith)) refl)

pub ids_where_all : (p : ℕ → Bool) (n i : ℕ) → n ≤ i → ids_where_below p n i ≡ ids_where p n
ids_where_all p n i h = filter_range (λ k. nat_lt k i && p k) p 0 n (λ k l u. rw (lt-ltb k i (omega arith)) refl)

next_test : (k i : ℕ) → i ≢ k → nat_lt k (i + 1) ≡ nat_lt k i
next_test k i h = grind arith

pub ids_where_more_no : (p : ℕ → Bool) (n i : ℕ) → p i ≡ false → ids_where_below p n (i + 1) ≡ ids_where_below p n i
ids_where_more_no p n i e = filter_range (λ k. nat_lt k (i + 1) && p k) (λ k. nat_lt k i && p k) 0 n (λ k l u. by_equal i k
    (λ s. let f : p k ≡ false = ap p (sym s) ∙ e in rw (f, and-false (nat_lt k (i + 1)), and-false (nat_lt k i)) refl)
    (λ ne. rw (next_test k i ne) refl))

pub ids_where_more_yes : (p : ℕ → Bool) (n i : ℕ) → p i ≡ true → ids_where_below p n (i + 1) ≡ with_id n (ids_where_below p n i) i
ids_where_more_yes p n i e = filter_range (λ k. nat_lt k (i + 1) && p k) (λ k. (k == i) || has_id (ids_where_below p n i) k) 0 n (λ k l u. by_equal i k
    (λ s. let f : p k ≡ true = ap p (sym s) ∙ e in let t : (k == i) ≡ true = eq-eqb k i (sym s) in rw (f, t, lt-ltb k (i + 1) (omega arith)) refl)
    (λ ne. let t : (k == i) ≡ false = ne_eqb k i (λ q. ne (sym q)) in
    rw (next_test k i ne, t) (sym (has-filter (λ j. nat_lt j i && p j) n k (omega arith)))))

filter_within : (p : ℕ → Bool) (a m n i : ℕ) → m ≤ n → a + m ≡ i → filter (λ k. nat_lt k i && p k) (range_with_len a n) ≡ filter p (range_with_len a m)
filter_within p a zero n i h e = filter_none (λ k. nat_lt k i && p k) a n (λ k l u. rw (le-ltb k i (omega arith)) refl)
filter_within p a (suc m) zero i h e = absurd (omega arith)
filter_within p a (suc m) (suc n) i h e =
    let rest = filter_within p (a + 1) m n i (omega arith) (omega arith) in
    rw (lt-ltb a i (omega arith), rest) refl

-- a loop that ends before the bound
pub ids_where-within : (p : ℕ → Bool) (n i : ℕ) → i ≤ n → ids_where_below p n i ≡ ids_where p i
ids_where-within p n i h = filter_within p 0 i n i h (omega arith)

-- ---- tests of all numbers below a bound

not_all_range : (p : ℕ → Bool) (a n k : ℕ) → a ≤ k → k < a + n → p k ≡ false → list_all p (range_with_len a n) ≡ false
not_all_range p a zero k l u fails = absurd (omega arith)
not_all_range p a (suc n) k l u fails = elim (cases_eq k a) [
  | inl e ↦ and_left (p a) _ (ap p (sym e) ∙ fails)
  | inr ne ↦ and_right (p a) _ (not_all_range p (a + 1) n k (omega arith) (omega arith) fails)
]

pub not_all_ids : (p : ℕ → Bool) (n k : ℕ) → k < n → p k ≡ false → list_all p (ids_below n) ≡ false
not_all_ids p n k u fails = not_all_range p 0 n k (omega arith) (omega arith) fails

-- how many numbers below a bound pass
pub count-range : (p : ℕ → Bool) (a n : ℕ) → count p (range_with_len a (suc n)) ≡ count p (range_with_len a n) + bit (p (a + n))
count-range p a zero = let e : a + 0 ≡ a = omega arith in rw e (omega arith)
count-range p a (suc n) =
    let e : (a + 1) + n ≡ a + suc n = omega arith in
    let rest = rw e at (count-range p (a + 1) n) in
    omega arith

pub count-below : (p : ℕ → Bool) (n : ℕ) → count p (ids_below (n + 1)) ≡ count p (ids_below n) + bit (p n)
count-below p n =
    let e : n + 1 ≡ suc n = omega arith in
    let z : 0 + n ≡ n = omega arith in
    rw e (count-range p 0 n ∙ ap (λ k. count p (ids_below n) + bit (p k)) z)

-- ---- a loop over the members

pub All-ids : (n : ℕ) (s : List ℕ) → IsIdSet n s → All (λ k. k < n) s
All-ids n s h = All-same (λ k. k < n) s (ids_where (λ k. has_id s k) n) h (All-filter (λ k. has_id s k) (λ k. k < n) (ids_below n) (All-range 0 n n (omega arith)))

pub length-ids : (n : ℕ) (s : List ℕ) → IsIdSet n s → length s ≤ n
length-ids n s h = omega (arith, ap length h, length-filter (λ k. has_id s k) (ids_below n), count_by-le-length (λ k. has_id s k) (ids_below n), length-range_with_len 0 n)

pub place_of-le : (n : ℕ) (s : List ℕ) (x : ℕ) → IsIdSet n s → place_of s x ≤ n
place_of-le n s x ids = omega (arith, length-filter (λ k. nat_lt k x) s, count_by-le-length (λ k. nat_lt k x) s, length-ids n s ids)

-- for a loop that builds a set, and for what its result has
pub ruleset id_loops = (ids_where_none, ids_where_all, ids_where_more_no, ids_where_more_yes)
