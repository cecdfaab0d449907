-- What is promised of the row of a run.
use Rattle.std.proofs.Common.{◌≡◌, ℕ, zero, suc, ◌<◌, true, not, Option, None, Some, refl, sym, ap, subst, ◌∙◌, inl, inr, arith}
use Rattle.std.specs.Prelude.{is_some, unwrap_or, option_map}
use Rattle.std.proofs.lemmas.Bool.{and_parts, cases_lt}
use Rattle.std.proofs.lemmas.Option.{none-some}
use Rattle.protocol.specs.Run.{System}
use Rattle.scenario.specs.Scenario.{ScenarioView, system_of, IsScenario}
use Rattle.cluster_periods.specs.Record.{within_in, claimed_before}
use Rattle.cluster_periods.specs.Laws.{IsClaimed, SafeLaw}
use Rattle.run_judged.specs.Numbers.{total}
use Rattle.run_judged.specs.Rows.{seen_of, lost_in, loss_at, false_charges_in, false_exclusions_in, row_of}
use Rattle.run_judged.specs.Laws.{until, IsSound, RowLaw}
use Rattle.run_judged.proofs.Kept.{all_kept, claimed_until, margin_there, margin_tells}
use Rattle.run_judged.proofs.Spared.{spares}

total_none : (f : ℕ → ℕ) (n : ℕ) → ((k : ℕ) → k < n → f k ≡ 0) → total f n ≡ 0
unfolding total
total_none f zero h = refl
total_none f (suc n) h = omega (arith, total_none f n (λ k l. h k (omega arith)), h n (omega arith))

step_down : (sys : System) (n : ℕ) → claimed_before sys (suc n) ≡ true → claimed_before sys n ≡ true
unfolding claimed_before
step_down sys n e = (and_parts (claimed_before sys n) (within_in sys n) e).0

pub claimed_down : (sys : System) (n p : ℕ) → p < n → claimed_before sys n ≡ true → claimed_before sys (suc p) ≡ true
claimed_down sys zero p low e = absurd (omega arith)
claimed_down sys (suc n) p low e = elim (cases_lt p n) [
  | inl less ↦ claimed_down sys n p less (step_down sys n e)
  | inr more ↦ let same : p ≡ n = omega arith in subst (λ (k : ℕ). claimed_before sys (suc k) ≡ true) (sym same) e
]

module _ {capacity : ℕ} (sc : ScenarioView capacity) where
  until_is : (o : Option ℕ) (n : ℕ) → unwrap_or o n ≡ until (option_map (loss_at sc) o) n
  unfolding loss_at
  until_is None n = refl
  until_is (Some q) n = refl

  none_lost : (o : Option ℕ) → option_map (loss_at sc) o ≡ None → o ≡ None
  none_lost None e = refl
  none_lost (Some q) e = absurd (none-some (loss_at sc q) (sym e))

  no_loss : (o : Option ℕ) → o ≡ None → option_map (loss_at sc) o ≡ None
  no_loss o e = ap (λ (x : Option ℕ). option_map (loss_at sc) x) e

  all_claimed : (n p : ℕ) → lost_in sc n ≡ None → p < n → IsClaimed sc p
  all_claimed n p e low = claimed_down (system_of sc) n p low (all_kept sc n ∙ ap (λ (o : Option ℕ). not (is_some o)) e)

  pub row_sound : SafeLaw → IsScenario sc → IsSound (row_of sc)
  row_sound law is =
      let spared = λ (p : ℕ) (claimed : IsClaimed sc p). spares sc is.system.config.few_nodes p (law capacity sc p is claimed) in
      record {
        claimed = claimed_until sc sc.periods ∙ until_is (lost_in sc sc.periods) sc.periods;
        margin = margin_there sc sc.periods is.some_periods;
        kept = λ x e. let tells = margin_tells sc sc.periods x is.some_periods e in
            (λ k. no_loss (lost_in sc sc.periods) (tells.0 k), λ f. tells.1 (none_lost (lost_in sc sc.periods) f));
        charges = λ e. total_none (false_charges_in (seen_of sc) sc.config.nodes) sc.periods (λ p low. (spared p (all_claimed sc.periods p (none_lost (lost_in sc sc.periods) e) low)).charges);
        exclusions = λ e. total_none (false_exclusions_in (seen_of sc) sc.config.nodes) sc.periods (λ p low. (spared p (all_claimed sc.periods p (none_lost (lost_in sc sc.periods) e) low)).exclusions);
      }

pub row_law : SafeLaw → RowLaw
row_law law N sc is = row_sound sc law is
