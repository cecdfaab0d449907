-- What holds of a run holds of its scenario, for a judge that follows it.
use Rattle.std.proofs.Common.{◌≡◌, ℕ, ◌<◌, arith, sym, ap, subst}
use Rattle.scenario.specs.Scenario.{ScenarioView}

module _ {N : ℕ} (sc ran : ScenarioView N) (p q : ℕ) (same : ran ≡ sc) (together : p ≡ q) where
  pub is_more : q < ran.periods → p < sc.periods
  is_more h = let periods = ap (λ (s : ScenarioView N). s.periods) same in omega (arith, h, together, periods)

  pub follows : (P : ScenarioView N → ℕ → Type 0) → P ran q → P sc p
  follows P h = subst (λ (s : ScenarioView N). P s p) same (subst (λ k. P ran k) (sym together) h)
