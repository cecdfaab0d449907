-- Facts of numbers that several crates cite.
use Rattle.std.proofs.Common.{Bool, None, Option, Some, ap, arith, cond, eq-eqb, false, get_or, lit≤, not, refl, replicate, suc, true, zero, ℕ, ℤ, ◌&&◌, ◌*◌, ◌+◌, ◌-◌, ◌/◌, ◌<◌, ◌==◌, ◌^◌, ◌||◌, ◌∙◌, ◌≡◌, ◌≢◌, ◌≤ℤ◌, ◌≤◌}
use Rattle.std.proofs.Math.Nat.{add-mul-div_left, div-eq_of_lt, mul-le-mul}
use Rattle.std.proofs.lemmas.Bool.{le-ltb, ne_eqb, not_from_false, or_from}
use Rattle.std.proofs.lemmas.Bool.Decides.{nat_tests}
use Rattle.std.proofs.lemmas.Int.{ints}
use Rattle.std.proofs.lemmas.Nat.{mul-le}
use Rattle.std.specs.Prelude.{if◌then◌else◌, int_lt, nat_le, nat_lt, slice_index}
use Rattle.node_grid.specs.Version.{kind_count, mask_bound, most_rounds}

pub above_zero : (i : ℕ) → (suc i == 0) ≡ false
above_zero i = grind arith

pub differ_true : (a b : ℕ) → not (a == b) ≡ true → a ≢ b
differ_true a b h = grind (arith, nat_tests)

pub digits_fit : (a b n w : ℕ) → a < n → b < w → a * w + b < n * w
digits_fit a b zero w h l = absurd (omega arith)
digits_fit zero b (suc n) w h l = omega arith
digits_fit (suc a) b (suc n) w h l = omega (arith, digits_fit a b n w (omega arith) l)

pub fewer_left : (n k : ℕ) → k < n → n - (k + 1) < n - k
fewer_left n k h = omega arith

pub first_only : (k : ℕ) → k < 1 → k ≡ 0
first_only k h = omega arith

pub get_or-zeros : (n i : ℕ) → ◌≡◌ {A = ℕ} (get_or (replicate n 0) i 0) 0
get_or-zeros zero i = refl
get_or-zeros (suc n) zero = refl
get_or-zeros (suc n) (suc i) = get_or-zeros n i

pub int_not_less : (x v : ℤ) → int_lt x v ≡ false → v ≤ℤ x
int_not_less x v h = grind (arith, ints)

pub kinds-few : (v : ℕ) → kind_count v ≤ 16
kinds-few v = grind arith

pub le_from : (k i : ℕ) → nat_le k i ≡ true → k ≤ i
le_from k i h = grind arith

pub le_no : (k i : ℕ) → i < k → nat_le k i ≡ false
le_no k i h = grind arith

pub le_yes : (k i : ℕ) → k ≤ i → nat_le k i ≡ true
le_yes k i h = grind arith

pub lt_from : (k i : ℕ) → nat_lt k i ≡ true → k < i
lt_from k i h = grind arith

pub lt_no : (k i : ℕ) → i ≤ k → nat_lt k i ≡ false
lt_no k i h = grind arith

pub lt_yes : (k i : ℕ) → k < i → nat_lt k i ≡ true
lt_yes k i h = grind arith

pub most_rounds-three : (version : ℕ) → most_rounds version ≤ 3
most_rounds-three version = elim (version == 1) as (λ b. cond b 2 3 ≤ 3) [ true ↦ omega arith | false ↦ omega arith ]

pub next_is : (n : ℕ) → n + 1 ≡ suc n
next_is n = omega arith

pub not_above : (a b : ℕ) → a ≤ b → not (nat_lt b a) ≡ true
not_above a b h = not_from_false _ (le-ltb b a h)

pub not_equal : (x y : ℕ) → x ≢ y → (x == y) ≡ false
not_equal x y h = grind arith

pub not_itself : (o : Bool) (q i : ℕ) → q ≡ i → (o && not (q == i)) ≡ false
not_itself o q i e = ap (λ (b : Bool). o && not b) (eq-eqb q i e) ∙ last o where
  last : (o : Bool) → (o && false) ≡ false
  last true = refl
  last false = refl

pub nothing_told : (rule place : ℕ) → ◌≡◌ {A = Option (ℕ × ℕ)} None (Some (rule, place)) → ⊥
nothing_told rule place e = cc

pub offset_fits : (i many size : ℕ) → i < many → many * size < 2 ^ 63 → i * size < 2 ^ 64
offset_fits i many size low fits = let m : i * size ≤ many * size = mul-le i size many size (omega (arith, low)) (omega arith) in omega (arith, m, fits)

-- a test of another node
pub other_fails : (k j : ℕ) (b : Bool) → k ≢ j → b ≡ false → (k == j || b) ≡ false
other_fails k j b ne h = or_from (k == j) b (ne_eqb k j ne) h

pub product_few : (i p : ℕ) → i ≤ 16 → p ≤ 65536 → i * p ≤ 16 * 65536
product_few i p h l = mul-le-mul h l

pub same_rest : (n r : ℕ) → n - 1 - r ≡ n - suc r
same_rest n r = omega arith

pub small_power : (r : ℕ) → r ≤ 3 → 16 ^ r ≤ 4096
small_power zero h = lit≤ tt
small_power (suc zero) h = lit≤ tt
small_power (suc (suc zero)) h = lit≤ tt
small_power (suc (suc (suc zero))) h = lit≤ tt
small_power (suc (suc (suc (suc r)))) h = absurd (omega arith)

-- a product's digits
pub some_width : (i n w : ℕ) → i < n * w → 0 < w
some_width i n zero h = absurd (omega arith)
some_width i n (suc w) h = omega arith

pub spread : (i p w k j : ℕ) → (i * p + k) * w + j ≡ i * (p * w) + (k * w + j)
spread i p w k j = omega arith

pub terms_fit : (k p w : ℕ) → k < p → k * w + w ≤ p * w
terms_fit k zero w h = absurd (omega arith)
terms_fit zero (suc p) w h = omega arith
terms_fit (suc k) (suc p) w h = omega (arith, terms_fit k p w (omega arith))

pub times_over : (width n : ℕ) → 0 < width → (width * n) / width ≡ n
times_over width n h =
    let z : 0 / width ≡ 0 = div-eq_of_lt h in
    ap (λ x. x / width) (omega arith) ∙ add-mul-div_left 0 n h ∙ omega arith

-- the two bytes of a mask lie within all
pub two_more : (j : ℕ) → 2 * j ≤ 2 * j + 2
two_more j = omega arith

pub two_within : (j n k : ℕ) → j < n → k ≡ 2 * n → 2 * j + 2 ≤ k
two_within j n k h e = omega arith

pub zero_mask : (v : ℕ) → 0 < mask_bound v
zero_mask v = elim (v == 1) as (λ b. 0 < (if b then 256 else 65536)) [ true ↦ omega arith | false ↦ omega arith ]

pub zero_there : (n k : ℕ) → slice_index (replicate n 0) k ≡ 0
zero_there zero k = refl
zero_there (suc n) zero = refl
zero_there (suc n) (suc k) = zero_there n k
