-- Spans of numbers, and the first number that passes a test, one number further.
use Rattle.std.proofs.Common.{◌≡◌, ℕ, zero, suc, ◌+◌, ◌-◌, ◌<◌, ◌≤◌, Bool, cond, [], ◌∷◌, ◌++◌, None, Some, sym, ap, ◌∙◌, inl, inr, arith}
use Rattle.std.specs.List.{find, range_with_len}
use Rattle.std.proofs.lemmas.Bool.{cases_Bool}
use Rattle.std.proofs.lemmas.List.Folds.{find-append}
use Rattle.node_grid.specs.ListFacts.{range_next}
use Rattle.run_judged.specs.Numbers.{span, first_in}
use Rattle.run_judged.specs.Growing.{or_now}

pub span_more : (low high : ℕ) → low ≤ high → span low (high + 1) ≡ span low high ++ high ∷ []
span_more low high h =
    let e : (high + 1) - low ≡ suc (high - low) = omega arith in
    let f : low + (high - low) ≡ high = omega arith in
    ap (range_with_len low) e ∙ range_next low (high - low) ∙ ap (λ (k : ℕ). span low high ++ k ∷ []) f

pub span_empty : (n : ℕ) → span n n ≡ []
span_empty n = let e : n - n ≡ 0 = omega arith in ap (range_with_len n) e

pub first_more : (test : ℕ → Bool) (low high : ℕ) → low ≤ high → first_in test low (high + 1) ≡ or_now (first_in test low high) (test high) high
unfolding first_in
first_more test low high h = ap (find test) (span_more low high h) ∙ find-append test (span low high) (high ∷ [])

pub first_none : (test : ℕ → Bool) (n : ℕ) → first_in test n n ≡ None
unfolding first_in
first_none test n = ap (find test) (span_empty n)

found_within : (test : ℕ → Bool) (a n q : ℕ) → find test (range_with_len a n) ≡ Some q → q < a + n
found_within test a zero q e = cc
found_within test a (suc n) q e = elim (cases_Bool (test a)) [
  | inl on ↦ let s : Some a ≡ Some q = ap (λ (b : Bool). cond b (Some a) (find test (range_with_len (a + 1) n))) (sym on) ∙ e in let same : a ≡ q = cc in omega arith
  | inr off ↦ let s : find test (range_with_len (a + 1) n) ≡ Some q = ap (λ (b : Bool). cond b (Some a) (find test (range_with_len (a + 1) n))) (sym off) ∙ e in
      let rest = found_within test (a + 1) n q s in omega arith
]

pub first_below : (test : ℕ → Bool) (low high q : ℕ) → low ≤ high → first_in test low high ≡ Some q → q < high
unfolding first_in
first_below test low high q h e = let l = found_within test low (high - low) q e in omega arith
