-- The mask of the kinds that pass a test: one kind further, and kind by kind.
use Rattle.std.proofs.Common.{◌≡◌, ◌≢◌, ℕ, zero, suc, ◌+◌, ◌*◌, ◌%◌, ◌^◌, ◌<◌, ◌≤◌, bit_or, Bool, true, false, cond, not, ◌||◌, [], ◌∷◌, ◌++◌, refl, sym, ap, ◌∙◌, arith, inl, inr, pow_pos}
use Rattle.std.specs.Prelude.{◌==◌}
use Rattle.std.specs.List.{filter, list_any}
use Rattle.std.specs.Int.{bit_at, w16}
use Rattle.std.proofs.Math.Bool.{or-false}
use Rattle.std.proofs.lemmas.Bool.{cases_lt}
use Rattle.std.proofs.lemmas.List.{map-id}
use Rattle.std.proofs.lemmas.List.FromFn.{filter_of_map_range_with_len_more, map-range_with_len_more}
use Rattle.std.proofs.lemmas.List.Folds.{list_any-append}
use Rattle.std.proofs.lemmas.List.Sums.{sum_by-append, sum_by-cons}
use Rattle.std.proofs.lemmas.Nat.{or_comm, or_shifted}
use Rattle.std.proofs.lemmas.Nat.Bits.{bit_at_set_same, bit_at_set_other, bit_at_above, bit_at-lt, same_from_bits_below}
use Rattle.std.proofs.Math.Nat.{pow-suc}
use Rattle.std.proofs.Math.Pow.{pow-lt}
use Rattle.node_grid.specs.NodeSet.{ids_below, ids_where, mask_of}
use Rattle.node_grid.specs.NodeSetLaws.{filter_range}

pub ids_where-more : (p : ℕ → Bool) (n : ℕ) → ids_where p (n + 1) ≡ ids_where p n ++ cond (p n) (n ∷ []) []
ids_where-more p n =
    ap (filter p) (sym (map-id (ids_below (n + 1)))) ∙ filter_of_map_range_with_len_more p (λ x. x) 0 n n (omega arith)
    ∙ ap (λ xs. filter p xs ++ cond (p n) (n ∷ []) []) (map-id (ids_below n))

pub mask-more : (p : ℕ → Bool) (n : ℕ) → mask_of (ids_where p (n + 1)) ≡ mask_of (ids_where p n) + cond (p n) (2 ^ n) 0
mask-more p n =
    ap mask_of (ids_where-more p n) ∙ sum_by-append (λ k. 2 ^ k) (ids_where p n) (cond (p n) (n ∷ []) [])
    ∙ ap (λ x. mask_of (ids_where p n) + x) (one (p n))
  where
    one : (b : Bool) → mask_of (cond b (n ∷ []) []) ≡ cond b (2 ^ n) 0
    one true = sum_by-cons (λ k. 2 ^ k) n [] ∙ omega arith
    one false = refl

-- the mask of kinds below n has no higher bits
pub mask-fits : (p : ℕ → Bool) (n : ℕ) → mask_of (ids_where p n) < 2 ^ n
mask-fits p zero = omega arith
mask-fits p (suc n) =
    let next : suc n ≡ n + 1 = omega arith in
    let double : 2 ^ suc n ≡ 2 ^ n * 2 = pow-suc 2 n in
    let few : cond (p n) (2 ^ n) 0 ≤ 2 ^ n = at_most (p n) in
    let all : mask_of (ids_where p (suc n)) ≡ mask_of (ids_where p n) + cond (p n) (2 ^ n) 0 = ap (λ k. mask_of (ids_where p k)) next ∙ mask-more p n in
    omega (arith, mask-fits p n, double, few, all)
  where
    at_most : (b : Bool) → cond b (2 ^ n) 0 ≤ 2 ^ n
    at_most true = omega arith
    at_most false = omega arith

-- a kind that passes sets its bit
pub mask-set : (p : ℕ → Bool) (n : ℕ) → n < 16 → p n ≡ true → bit_or (mask_of (ids_where p n)) (1 * 2 ^ n % 65536) ≡ mask_of (ids_where p (n + 1))
mask-set p n few passes =
    let power : 2 ^ n < 2 ^ 16 = pow-lt few in
    let one : 1 * 2 ^ n % 65536 ≡ 1 * 2 ^ n = omega arith in
    let more : mask_of (ids_where p (n + 1)) ≡ mask_of (ids_where p n) + 2 ^ n = mask-more p n ∙ rw passes refl in
    rw (one, more) (or_comm (mask_of (ids_where p n)) (1 * 2 ^ n) ∙ or_shifted 1 n (mask_of (ids_where p n)) (mask-fits p n) ∙ omega arith)

pub mask-clear : (p : ℕ → Bool) (n : ℕ) → p n ≡ false → mask_of (ids_where p n) ≡ mask_of (ids_where p (n + 1))
mask-clear p n fails = sym (mask-more p n ∙ rw fails (omega arith))

-- one kind more: what the mask below n has is handed on
has_more : (p : ℕ → Bool) (n k : ℕ) → n < 16 → k < n + 1 → (k < n → (bit_at (mask_of (ids_where p n)) k == 1) ≡ p k) → (b : Bool) → p n ≡ b
    → (bit_at (mask_of (ids_where p (n + 1))) k == 1) ≡ p k
has_more p n k few within before true e = elim (cases_lt k n) [
  | inl less ↦
      let other : k ≢ n = omega arith in
      rw (sym (mask-set p n few e), bit_at_set_other w16 (mask_of (ids_where p n)) n few k other) (before less)
  | inr after ↦
      let same : k ≡ n = omega arith in
      rw (sym (mask-set p n few e), same, bit_at_set_same w16 (mask_of (ids_where p n)) n few, e) refl
]
has_more p n k few within before false e = elim (cases_lt k n) [
  | inl less ↦ rw (sym (mask-clear p n e)) (before less)
  | inr after ↦
      let same : k ≡ n = omega arith in
      rw (sym (mask-clear p n e), same, bit_at_above (mask_of (ids_where p n)) n n (mask-fits p n) (omega arith), e) refl
]

-- the mask has a bit exactly where the kind passes
pub mask-has : (p : ℕ → Bool) (n k : ℕ) → n ≤ 16 → k < n → (bit_at (mask_of (ids_where p n)) k == 1) ≡ p k
mask-has p zero k few within = absurd (omega arith)
mask-has p (suc n) k few within =
    let next : suc n ≡ n + 1 = omega arith in
    ap (λ i. bit_at (mask_of (ids_where p i)) k == 1) next
    ∙ has_more p n k (omega arith) (omega arith) (λ less. mask-has p n k (omega arith) less) (p n) refl

any_more : (p : ℕ → Bool) (n : ℕ) → list_any p (ids_below (n + 1)) ≡ (list_any p (ids_below n) || p n)
any_more p n =
    ap (list_any p) (sym (map-id (ids_below (n + 1))) ∙ map-range_with_len_more (λ x. x) 0 n n (omega arith) ∙ ap (λ xs. xs ++ n ∷ []) (map-id (ids_below n)))
    ∙ list_any-append p (ids_below n) (n ∷ []) ∙ ap (λ b. list_any p (ids_below n) || b) (or-false (p n))

positive : (m : ℕ) → 0 < m → (m == 0) ≡ false
positive m h = grind arith

not_or_true : (b : Bool) → not (b || true) ≡ false
not_or_true true = refl
not_or_true false = refl

not_or_false : (b : Bool) → not (b || false) ≡ not b
not_or_false true = refl
not_or_false false = refl

none_more : (p : ℕ → Bool) (n : ℕ) → (mask_of (ids_where p n) == 0) ≡ not (list_any p (ids_below n)) → (b : Bool) → p n ≡ b
    → (mask_of (ids_where p (n + 1)) == 0) ≡ not (list_any p (ids_below (n + 1)))
none_more p n before true e =
    let worth : mask_of (ids_where p (n + 1)) ≡ mask_of (ids_where p n) + 2 ^ n = mask-more p n ∙ rw e refl in
    let some : 0 < mask_of (ids_where p (n + 1)) = omega (arith, worth, pow_pos n) in
    positive (mask_of (ids_where p (n + 1))) some ∙ sym (ap not (any_more p n) ∙ rw e (not_or_true (list_any p (ids_below n))))
none_more p n before false e = rw (sym (mask-clear p n e)) (before ∙ sym (ap not (any_more p n) ∙ rw e (not_or_false (list_any p (ids_below n)))))

-- the mask is 0 exactly where no kind passes
pub mask-none : (p : ℕ → Bool) (n : ℕ) → (mask_of (ids_where p n) == 0) ≡ not (list_any p (ids_below n))
mask-none p zero = refl
mask-none p (suc n) =
    let next : suc n ≡ n + 1 = omega arith in
    ap (λ i. mask_of (ids_where p i) == 0) next ∙ none_more p n (mask-none p n) (p n) refl ∙ ap (λ i. not (list_any p (ids_below i))) (sym next)

pub same_bit : (x y : ℕ) → x < 2 → y < 2 → (x == 1) ≡ (y == 1) → x ≡ y
same_bit x y h l e = grind arith

-- a mask is known by its bits
pub mask_from_bits : (mask : ℕ) (p : ℕ → Bool) (n : ℕ) → n ≤ 16 → mask < 2 ^ n → ((k : ℕ) → k < n → (bit_at mask k == 1) ≡ p k) → mask ≡ mask_of (ids_where p n)
mask_from_bits mask p n few fits bits = same_from_bits_below n mask (mask_of (ids_where p n)) fits (mask-fits p n)
    (λ k within. same_bit (bit_at mask k) (bit_at (mask_of (ids_where p n)) k) (bit_at-lt mask k) (bit_at-lt (mask_of (ids_where p n)) k) (bits k within ∙ sym (mask-has p n k few within)))

-- tests that agree below n have the same mask
pub same_masks : (p q : ℕ → Bool) (n : ℕ) → ((k : ℕ) → k < n → p k ≡ q k) → mask_of (ids_where p n) ≡ mask_of (ids_where q n)
same_masks p q n same = ap mask_of (filter_range p q 0 n (λ k l u. same k (omega arith)))
