-- A mask of slots: it has some, and only below a limit.
use Rattle.std.proofs.Common.{◌≡◌, ℕ, zero, suc, ◌+◌, ◌/◌, ◌%◌, ◌^◌, ◌<◌, ◌≤◌, Bool, true, false, not, ◌&&◌, List, [], ◌∷◌, length, refl, sym, ap, ap₂, ◌∙◌, inl, inr, arith, eqb-true, ltb-true}
use Rattle.std.specs.Prelude.{◌==◌, nat_lt}
use Rattle.std.specs.Int.{bit_at}
use Rattle.std.specs.List.{list_all, filter, range_with_len}
use Rattle.std.proofs.lemmas.Bool.{cases_Bool, cases_lt, and_from, both_ways, lt-ltb, eq-eqb, ne_eqb, false_from_ne_true}
use Rattle.std.proofs.lemmas.Nat.{div-add-mod', pow_pos, mod_below}
use Rattle.std.proofs.lemmas.Nat.Bits.{bit_at_above, bit_at_cat_low, bit_at-lt, same_from_bits_below}
use Rattle.std.proofs.Math.Nat.{div-eq_of_lt, mod-le}
use Rattle.std.proofs.Math.Pow.{pow_mono}
use Rattle.node_grid.specs.NodeSet.{has_id, bits_set, mask_of}
use Rattle.node_grid.specs.NodeSetLaws.{mask_of-bits_set, has-bits_set, bits_set-zero}
use Rattle.fault_classes.specs.Line.{slots_in}
use Rattle.fault_classes.specs.Rules.{are_below}
use Rattle.node_grid.specs.ListLaws.{all_at}
use Rattle.std.proofs.Math.Bool.{and-true}

-- all that a filter of a range keeps
all_kept : (p f : ℕ → Bool) (a n : ℕ) → ((k : ℕ) → a ≤ k → k < a + n → p k ≡ true → f k ≡ true) → list_all f (filter p (range_with_len a n)) ≡ true
all_kept p f a zero h = refl
all_kept p f a (suc n) h = elim (cases_Bool (p a)) [
  | inl e ↦ rw e (and_from _ _ (h a (omega arith) (omega arith) e) (all_kept p f (a + 1) n (λ k l u. h k (omega arith) (omega arith))))
  | inr e ↦ rw e (all_kept p f (a + 1) n (λ k l u. h k (omega arith) (omega arith)))
]

bit_or_not : (mask k : ℕ) → (bit_at mask k == 1) ≡ false → bit_at mask k ≡ 0
bit_or_not mask k e = let b : bit_at mask k < 2 = bit_at-lt mask k in grind arith

some_bits : (n mask : ℕ) → mask < 2 ^ n → nat_lt 0 (length (bits_set n mask)) ≡ not (mask == 0)
some_bits n mask h = elim (cases_Bool (mask == 0)) [
  | inl e ↦ let z : mask ≡ 0 = eqb-true mask 0 e in let none : bits_set n mask ≡ [] = ap (bits_set n) z ∙ bits_set-zero n in rw (e, none) refl
  | inr e ↦ rw e (lt-ltb 0 (length (bits_set n mask)) (filled e (bits_set n mask) refl))
]
  where
    filled : (mask == 0) ≡ false → (xs : List ℕ) → bits_set n mask ≡ xs → 0 < length xs
    filled e [] s = absurd (let z : mask ≡ 0 = sym (mask_of-bits_set n mask h) ∙ ap mask_of s in both_ways (mask == 0) e (eq-eqb mask 0 z))
    filled e (x ∷ xs) s = omega arith

-- all bits are below k exactly where the number is below 2 ^ k
below_bits : (n k mask : ℕ) → mask < 2 ^ n → list_all (λ x. nat_lt x k) (bits_set n mask) ≡ (mask / 2 ^ k == 0)
below_bits n k mask h = elim (cases_lt mask (2 ^ k)) [
  | inl low ↦
      let z : (mask / 2 ^ k == 0) ≡ true = eq-eqb (mask / 2 ^ k) 0 (div-eq_of_lt low) in
      all_kept (λ b. bit_at mask b == 1) (λ x. nat_lt x k) 0 n (λ b l u e. elim (cases_lt b k) [
        | inl y ↦ lt-ltb b k y
        | inr up ↦ absurd (let o : bit_at mask b ≡ 1 = eqb-true (bit_at mask b) 1 e in let q : bit_at mask b ≡ 0 = bit_at_above mask k b low up in omega arith)
      ]) ∙ sym z
  | inr high ↦
      let z : (mask / 2 ^ k == 0) ≡ false = ne_eqb (mask / 2 ^ k) 0 (λ e. let d : mask ≡ mask % 2 ^ k = sym (div-add-mod' mask (2 ^ k)) ∙ rw e (omega arith) in let r : mask % 2 ^ k < 2 ^ k = mod_below mask (2 ^ k) (pow_pos k) in omega arith) in
      false_from_ne_true _ (λ all.
      let cut : mask ≡ mask % 2 ^ k = same_from_bits_below n mask (mask % 2 ^ k) h (less mask (2 ^ k) (2 ^ n) h) (λ b u. elim (cases_lt b k) [
        | inl low ↦ ap (λ m. bit_at m b) (sym (div-add-mod' mask (2 ^ k))) ∙ bit_at_cat_low (mask / 2 ^ k) k (mask % 2 ^ k) b low
        | inr up ↦ none b u up all ∙ sym (bit_at_above (mask % 2 ^ k) k b (mod_below mask (2 ^ k) (pow_pos k)) up)
      ]) in
      let r : mask % 2 ^ k < 2 ^ k = mod_below mask (2 ^ k) (pow_pos k) in
      omega arith) ∙ sym z
]
  where
    less : (m w x : ℕ) → m < x → m % w < x
    less m w x h = let r : m % w ≤ m = mod-le m w in omega arith

    none : (b : ℕ) → b < n → k ≤ b → list_all (λ x. nat_lt x k) (bits_set n mask) ≡ true → bit_at mask b ≡ 0
    none b u up all = elim (cases_Bool (bit_at mask b == 1)) [
      | inl e ↦
          let on : has_id (bits_set n mask) b ≡ true = has-bits_set n mask b u ∙ e in
          absurd (let y : b < k = ltb-true b k (all_at (λ x. nat_lt x k) (bits_set n mask) b all on) in omega arith)
      | inr e ↦ bit_or_not mask b e
    ]

within_bits : (n k mask : ℕ) → n ≤ k → mask < 2 ^ n → mask < 2 ^ k
within_bits n k mask h l = omega (arith, pow_mono h)

pub slots_low : (k mask : ℕ) → mask < 2 ^ 16 → are_below k (slots_in mask) ≡ (not (mask == 0) && (mask / 2 ^ k == 0))
unfolding slots_in
slots_low k mask h = ap₂ (λ a b. a && b) (some_bits 16 mask h) (below_bits 16 k mask h)

pub slots_wide : (k mask : ℕ) → 16 ≤ k → mask < 2 ^ 16 → are_below k (slots_in mask) ≡ not (mask == 0)
slots_wide k mask wide h =
    let z : (mask / 2 ^ k == 0) ≡ true = eq-eqb (mask / 2 ^ k) 0 (div-eq_of_lt (within_bits 16 k mask wide h)) in
    slots_low k mask h ∙ rw z (and-true (not (mask == 0)))
