-- Marks put into a list at the places that pass a test, and tests on the digits of a place.
use Rattle.std.proofs.Common.{◌≡◌, ◌≢◌, ℕ, ◌+◌, ◌*◌, ◌/◌, ◌%◌, ◌<◌, ◌≤◌, Bool, true, false, ◌&&◌, ◌||◌, ◌⊎◌, List, length, set, get_or, cond, refl, sym, ap, ◌∙◌, inl, inr, arith, eq-eqb, eqb-true, length-set, get_or-set_same, get_or-set_other}
use Rattle.std.specs.Prelude.{◌==◌, nat_lt, slice_index}
use Rattle.std.proofs.lemmas.Bool.{cases_Bool, cases_eq, or_cases, ne_eqb, both_ways}
use Rattle.std.proofs.lemmas.Nat.{div-mul-add, mod-mul-add, mod_below, div-add-mod'}
use Rattle.fault_classes.specs.Cells.{IsMarked, IsTaken, itself}

cond_true : (b : Bool) (x y : ℕ) → b ≡ true → cond b x y ≡ x
cond_true b x y h = rw h refl

cond_false : (b : Bool) (x y : ℕ) → b ≡ false → cond b x y ≡ y
cond_false b x y h = rw h refl

pub marked_none : {at : ℕ → ℕ} (test : ℕ → Bool) (m : ℕ) (xs : List ℕ) → ((c : ℕ) → test c ≡ false) → IsMarked at test m xs xs
marked_none {at} test m xs none = record {
  whole = refl;
  cells = λ c. sym (cond_false (test c) m (slice_index xs (at c)) (none c));
  free = λ c h. absurd (both_ways (test c) (none c) h);
}

pub marked_same : {at : ℕ → ℕ} (test other : ℕ → Bool) (m : ℕ) (xs ys : List ℕ) → IsMarked at test m xs ys → ((c : ℕ) → other c ≡ test c) → IsMarked at other m xs ys
marked_same {at} test other m xs ys h same = record {
  whole = h.whole;
  cells = λ c. h.cells c ∙ ap (λ b. cond b m (slice_index xs (at c))) (sym (same c));
  free = λ c t. h.free c (sym (same c) ∙ t);
}

pub marked_more : {at : ℕ → ℕ} (first next both : ℕ → Bool) (m : ℕ) (xs ys zs : List ℕ) → IsMarked at first m xs ys → IsMarked at next m ys zs → ((c : ℕ) → both c ≡ (first c || next c))
    → IsMarked at both m xs zs
marked_more {at} first next both m xs ys zs f n parts = record {
  whole = n.whole ∙ f.whole;
  cells = λ c. n.cells c ∙ ap (λ v. cond (next c) m v) (f.cells c) ∙ joined (first c) (next c) (slice_index xs (at c)) ∙ ap (λ b. cond b m (slice_index xs (at c))) (sym (parts c));
  free = λ c t. elim (cases_Bool (first c)) [
    | inl y ↦ f.free c y
    | inr off ↦
        let later : next c ≡ true = elim (or_cases (first c) (next c) (sym (parts c) ∙ t)) [ inl y ↦ absurd (both_ways (first c) off y) | inr y ↦ y ] in
        sym (f.cells c ∙ cond_false (first c) m (slice_index xs (at c)) off) ∙ n.free c later
  ];
}
  where
    joined : (a b : Bool) (v : ℕ) → cond b m (cond a m v) ≡ cond (a || b) m v
    joined true true v = refl
    joined true false v = refl
    joined false true v = refl
    joined false false v = refl

pub marked_cell : (x m : ℕ) (xs : List ℕ) → x < length xs → slice_index xs x ≡ 0 → IsMarked itself (λ c. c == x) m xs (set xs x m)
marked_cell x m xs within free = record {
  whole = length-set xs x m;
  cells = λ c. elim (cases_eq c x) [
    | inl e ↦ ap (λ k. get_or (set xs x m) k 0) e ∙ get_or-set_same xs x m 0 within ∙ sym (cond_true (c == x) m (slice_index xs c) (eq-eqb c x e))
    | inr ne ↦ get_or-set_other xs x c m 0 ne ∙ sym (cond_false (c == x) m (slice_index xs c) (ne_eqb c x ne))
  ];
  free = λ c t. ap (λ k. get_or xs k 0) (eqb-true c x t) ∙ free;
}

pub taken_cell : (x : ℕ) (xs : List ℕ) → slice_index xs x ≢ 0 → IsTaken itself (λ c. c == x) xs
taken_cell x xs ne = (x, eq-eqb x x refl, ne)

-- a place that isn't free after some marks wasn't free before, where it has none of them
pub taken_later : {at : ℕ → ℕ} (first next whole : ℕ → Bool) (m : ℕ) (xs ys : List ℕ) → IsMarked at first m xs ys → IsTaken at next ys
    → ((c : ℕ) → next c ≡ true → first c ≡ false) → ((c : ℕ) → next c ≡ true → whole c ≡ true) → IsTaken at whole xs
taken_later {at} first next whole m xs ys f t apart part =
    (t.0, part t.0 t.1, λ zero_before. t.2 (f.cells t.0 ∙ cond_false (first t.0) m (slice_index xs (at t.0)) (apart t.0 t.1) ∙ zero_before))

-- ---- the digits of a place: so many times w, and what is left

-- the first digit is as given, and the second is below k and passes
abbrev pub digits_below : (ℕ → Bool) → ℕ → ℕ → ℕ → ℕ → Bool
digits_below p w high k d = d / w == high && (nat_lt (d % w) k && p (d % w))

place_of : (w high low d : ℕ) → 0 < w → d / w ≡ high → d % w ≡ low → d ≡ high * w + low
place_of w high low d some eh el = sym (div-add-mod' d w) ∙ rw (eh, el) refl

pub digits_none : (p : ℕ → Bool) (w high d : ℕ) → digits_below p w high 0 d ≡ false
digits_none p w high d = grind arith

pub digits_yes : (p : ℕ → Bool) (w high k d : ℕ) → k < w → p k ≡ true → digits_below p w high (k + 1) d ≡ (digits_below p w high k d || d == high * w + k)
digits_yes p w high k d h passes = elim (cases_eq d (high * w + k)) [
  | inl e ↦
      let q : d / w ≡ high = ap (λ x. x / w) e ∙ div-mul-add high w k h in
      let r : d % w ≡ k = ap (λ x. x % w) e ∙ mod-mul-add high w k h in
      let t : (d == high * w + k) ≡ true = eq-eqb d (high * w + k) e in
      let a : (k == k) ≡ true = eq-eqb k k refl in
      let b : nat_lt k (k + 1) ≡ true = grind arith in
      let z : (high == high) ≡ true = eq-eqb high high refl in
      rw (q, r, t, b, z, passes) (grind arith)
  | inr ne ↦
      let t : (d == high * w + k) ≡ false = ne_eqb d (high * w + k) ne in
      rw t (apart (cases_eq (d / w) high) (cases_eq (d % w) k) ne)
]
  where
    or_none : (b : Bool) → b ≡ (b || false)
    or_none true = refl
    or_none false = refl

    apart : (d / w ≡ high) ⊎ (d / w ≢ high) → (d % w ≡ k) ⊎ (d % w ≢ k) → d ≢ high * w + k → digits_below p w high (k + 1) d ≡ (digits_below p w high k d || false)
    apart (inl q) (inl r) ne = absurd (ne (place_of w high k d (omega arith) q r))
    apart (inr q) o ne = let z : (d / w == high) ≡ false = ne_eqb (d / w) high q in rw z refl
    apart o (inr r) ne = let z : nat_lt (d % w) (k + 1) ≡ nat_lt (d % w) k = grind arith in rw z (or_none (digits_below p w high k d))

pub digits_no : (p : ℕ → Bool) (w high k d : ℕ) → p k ≡ false → digits_below p w high (k + 1) d ≡ digits_below p w high k d
digits_no p w high k d fails = elim (cases_eq (d % w) k) [
  | inl e ↦ let q : p (d % w) ≡ false = ap p e ∙ fails in rw q (both_false (d / w == high) (nat_lt (d % w) (k + 1)) (nat_lt (d % w) k))
  | inr ne ↦ let z : nat_lt (d % w) (k + 1) ≡ nat_lt (d % w) k = grind arith in rw z refl
]
  where
    both_false : (a b c : Bool) → (a && (b && false)) ≡ (a && (c && false))
    both_false true true true = refl
    both_false true true false = refl
    both_false true false true = refl
    both_false true false false = refl
    both_false false b c = refl

pub digits_all : (p : ℕ → Bool) (w high k d : ℕ) → 0 < w → w ≤ k → (d / w == high && p (d % w)) ≡ digits_below p w high k d
digits_all p w high k d some all =
    let below : d % w < w = mod_below d w some in
    let z : nat_lt (d % w) k ≡ true = grind arith in
    rw z refl

-- the place itself
pub digits_here : (p : ℕ → Bool) (w high k d : ℕ) → k < w → p k ≡ true → (d == high * w + k) ≡ true → (digits_below p w high k d ≡ false) × ((d / w == high && p (d % w)) ≡ true)
digits_here p w high k d h passes is =
    let e : d ≡ high * w + k = eqb-true d (high * w + k) is in
    let q : d / w ≡ high = ap (λ x. x / w) e ∙ div-mul-add high w k h in
    let r : d % w ≡ k = ap (λ x. x % w) e ∙ mod-mul-add high w k h in
    let z : (high == high) ≡ true = eq-eqb high high refl in
    let b : nat_lt k k ≡ false = grind arith in
    (rw (q, r, b, z) refl, rw (q, r, passes, z) refl)
