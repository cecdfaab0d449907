-- Which periods are claimed, and the least margin.
use Rattle.std.proofs.Common.{◌≡◌, ℕ, zero, suc, ◌+◌, ◌*◌, ◌≤◌, Bool, true, false, cond, int_lt, not, ◌&&◌, ℤ, pos, ◌≤ℤ◌, Option, None, Some, refl, sym, ap, ap₂, subst, ◌∙◌, arith}
use Rattle.std.specs.Prelude.{is_some, unwrap_or, nat_le, nat_lt, if◌then◌else◌, ◌↔◌, IsSome}
use Rattle.std.specs.Int.{int_min}
use Rattle.std.proofs.lemmas.Int.{ints, int_min_is}
use Rattle.std.proofs.lemmas.Bool.{and_parts}
use Rattle.std.proofs.lemmas.Bool.Decides.{nat_tests}
use Rattle.std.proofs.lemmas.Option.{none-some}
use Rattle.node_grid.specs.Count.{bit}
use Rattle.fault_classes.specs.declared.budget.Budget.{Budget}
use Rattle.scenario.specs.Scenario.{ScenarioView, system_of}
use Rattle.cluster_periods.specs.Record.{holds, budget_in, within_in, claimed_before}
use Rattle.run_judged.specs.Numbers.{total, least, lesser}
use Rattle.run_judged.specs.Growing.{or_now}
use Rattle.run_judged.specs.Margins.{margin}
use Rattle.run_judged.specs.Rows.{is_within, is_claimed, lost_in, margin_at, margin_upto}
use Rattle.run_judged.proofs.Spans.{first_more, first_none}

-- ---- one budget

kept_least : (b : Budget) (m : ℕ) → holds b m ≡ true → pos 1 ≤ℤ margin b m
kept_least b m h =
    let both = and_parts (nat_le b.a m) (nat_lt (2 * b.a + 2 * b.s + b.b + m) b.n) h in
    let e = both.0 in
    let f = both.1 in
    grind (arith, ints, nat_tests)

lost_most : (b : Budget) (m : ℕ) → holds b m ≡ false → margin b m ≤ℤ pos 0
lost_most b m h = grind (arith, ints, nat_tests)

-- the least margin of n periods, by the one that is lost
abbrev pub MarginIs : Option ℕ → ℕ → Option ℤ → Type 0
MarginIs (Some q) n m = (x : ℤ) × (m ≡ Some x) × (x ≤ℤ pos 0)
MarginIs None zero m = m ≡ None
MarginIs None (suc k) m = (x : ℤ) × (m ≡ Some x) × (pos 1 ≤ℤ x)

least_above : (x y : ℤ) → pos 1 ≤ℤ x → pos 1 ≤ℤ y → pos 1 ≤ℤ int_min x y
least_above x y a b = elim (int_lt y x) as (λ t. pos 1 ≤ℤ cond t y x) [ true ↦ b | false ↦ a ]

least_below : (x y : ℤ) → y ≤ℤ pos 0 → int_min x y ≤ℤ pos 0
least_below x y b = omega (arith, ints, int_min_is x y)

margin_step : (n : ℕ) (o : Option ℕ) (before : Option ℤ) (w : Bool) (x : ℤ) → (w ≡ true → pos 1 ≤ℤ x) → (w ≡ false → x ≤ℤ pos 0) → MarginIs o n before
    → MarginIs (or_now o (not w) n) (suc n) (lesser before (if is_some o then None else Some x))
margin_step n (Some q) before w x k l is = (is.0, ap (λ (m : Option ℤ). lesser m None) is.1, is.2)
margin_step zero None before true x k l is = (x, ap (λ (m : Option ℤ). lesser m (Some x)) is, k refl)
margin_step zero None before false x k l is = (x, ap (λ (m : Option ℤ). lesser m (Some x)) is, l refl)
margin_step (suc j) None before true x k l is = (int_min is.0 x, ap (λ (m : Option ℤ). lesser m (Some x)) is.1, least_above is.0 x is.2 (k refl))
margin_step (suc j) None before false x k l is = (int_min is.0 x, ap (λ (m : Option ℤ). lesser m (Some x)) is.1, least_below is.0 x (l refl))

there_by : (o : Option ℕ) (n : ℕ) (m : Option ℤ) → 1 ≤ n → MarginIs o n m → IsSome m
there_by (Some q) n m h is = subst (λ (z : Option ℤ). IsSome z) (sym is.1) refl
there_by None zero m h is = absurd (omega arith)
there_by None (suc k) m h is = subst (λ (z : Option ℤ). IsSome z) (sym is.1) refl

tells_by : (o : Option ℕ) (n : ℕ) (m : Option ℤ) (x : ℤ) → 1 ≤ n → MarginIs o n m → m ≡ Some x → pos 1 ≤ℤ x ↔ (o ≡ None)
tells_by (Some q) n m x h is e =
    let s : Some is.0 ≡ Some x = sym is.1 ∙ e in
    let same : is.0 ≡ x = cc in
    let low = is.2 in
    (λ k. absurd (omega (arith, ints, same, low, k)), λ f. absurd (none-some q (sym f)))
tells_by None zero m x h is e = absurd (omega arith)
tells_by None (suc k) m x h is e =
    let s : Some is.0 ≡ Some x = sym is.1 ∙ e in
    let same : is.0 ≡ x = cc in
    (λ l. refl, λ f. subst (λ (z : ℤ). pos 1 ≤ℤ z) same is.2)

module _ {N : ℕ} (sc : ScenarioView N) where
  lost_next : (n : ℕ) → lost_in sc (suc n) ≡ or_now (lost_in sc n) (not (is_within sc n)) n
  lost_next n = ap (lost_in sc) (let e : suc n ≡ n + 1 = omega arith in e) ∙ first_more (λ p. not (is_within sc p)) 0 n (omega arith)

  claimed_by : (n : ℕ) → is_claimed sc n ≡ claimed_before (system_of sc) (suc n)
  unfolding is_claimed
  claimed_by n = refl

  within_by : (n : ℕ) → is_within sc n ≡ within_in (system_of sc) n
  unfolding is_within
  within_by n = refl

  step_by : (n : ℕ) → claimed_before (system_of sc) (suc n) ≡ (claimed_before (system_of sc) n && within_in (system_of sc) n)
  unfolding claimed_before
  step_by n = refl

  none_by : claimed_before (system_of sc) 0 ≡ true
  unfolding claimed_before
  none_by = refl

  some_now : (o : Option ℕ) (w : Bool) (n : ℕ) → not (is_some (or_now o (not w) n)) ≡ (not (is_some o) && w)
  some_now (Some q) w n = refl
  some_now None true n = refl
  some_now None false n = refl

  -- all periods below n are claimed where none is lost
  pub all_kept : (n : ℕ) → claimed_before (system_of sc) n ≡ not (is_some (lost_in sc n))
  all_kept zero = none_by ∙ ap (λ (o : Option ℕ). not (is_some o)) (sym (first_none (λ p. not (is_within sc p)) 0))
  all_kept (suc n) =
      step_by n ∙ ap₂ (λ (a b : Bool). a && b) (all_kept n) (sym (within_by n))
      ∙ sym (ap (λ (o : Option ℕ). not (is_some o)) (lost_next n) ∙ some_now (lost_in sc n) (is_within sc n) n)

  pub claimed_is : (n : ℕ) → is_claimed sc n ≡ not (is_some (lost_in sc (suc n)))
  claimed_is n = claimed_by n ∙ all_kept (suc n)

  counted : (n k : ℕ) (o : Option ℕ) (w : Bool) → k ≡ unwrap_or o n → k + bit (not (is_some (or_now o (not w) n))) ≡ unwrap_or (or_now o (not w) n) (suc n)
  counted n k (Some q) w e = omega arith
  counted n k None true e = omega arith
  counted n k None false e = omega arith

  -- the claimed periods are those before the lost one
  pub claimed_until : (n : ℕ) → total (λ p. bit (is_claimed sc p)) n ≡ unwrap_or (lost_in sc n) n
  unfolding total
  claimed_until zero = ap (λ (o : Option ℕ). unwrap_or o 0) (sym (first_none (λ p. not (is_within sc p)) 0))
  claimed_until (suc n) =
      let now : is_claimed sc n ≡ not (is_some (or_now (lost_in sc n) (not (is_within sc n)) n)) = claimed_is n ∙ ap (λ (o : Option ℕ). not (is_some o)) (lost_next n) in
      ap (λ (b : Bool). total (λ p. bit (is_claimed sc p)) n + bit b) now
      ∙ counted n (total (λ p. bit (is_claimed sc p)) n) (lost_in sc n) (is_within sc n) (claimed_until n)
      ∙ ap (λ (o : Option ℕ). unwrap_or o (suc n)) (sym (lost_next n))

  -- ---- the margin

  margin_kept : (n : ℕ) → is_within sc n ≡ true → pos 1 ≤ℤ margin_at sc n
  unfolding is_within margin_at
  margin_kept n h = kept_least (budget_in (system_of sc) n) sc.config.m h

  margin_lost : (n : ℕ) → is_within sc n ≡ false → margin_at sc n ≤ℤ pos 0
  unfolding is_within margin_at
  margin_lost n h = lost_most (budget_in (system_of sc) n) sc.config.m h

  margin_next : (n : ℕ) → least (margin_upto sc) (suc n) ≡ lesser (least (margin_upto sc) n) (if is_some (lost_in sc n) then None else Some (margin_at sc n))
  unfolding least
  margin_next n = refl

  margin_none : MarginIs None 0 (least (margin_upto sc) 0)
  unfolding least
  margin_none = refl

  pub margin_is : (n : ℕ) → MarginIs (lost_in sc n) n (least (margin_upto sc) n)
  margin_is zero = subst (λ (o : Option ℕ). MarginIs o 0 (least (margin_upto sc) 0)) (sym (first_none (λ p. not (is_within sc p)) 0)) margin_none
  margin_is (suc n) =
      let now = margin_step n (lost_in sc n) (least (margin_upto sc) n) (is_within sc n) (margin_at sc n) (margin_kept n) (margin_lost n) (margin_is n) in
      subst (λ (o : Option ℕ). MarginIs o (suc n) (least (margin_upto sc) (suc n))) (sym (lost_next n))
      (subst (λ (m : Option ℤ). MarginIs (or_now (lost_in sc n) (not (is_within sc n)) n) (suc n) m) (sym (margin_next n)) now)

  -- it is there, and at least 1 exactly where none is lost
  pub margin_there : (n : ℕ) → 1 ≤ n → IsSome (least (margin_upto sc) n)
  margin_there n h = there_by (lost_in sc n) n (least (margin_upto sc) n) h (margin_is n)

  pub margin_tells : (n : ℕ) (x : ℤ) → 1 ≤ n → least (margin_upto sc) n ≡ Some x → pos 1 ≤ℤ x ↔ (lost_in sc n ≡ None)
  margin_tells n x h e = tells_by (lost_in sc n) n (least (margin_upto sc) n) x h (margin_is n) e
