-- The sums over one period more.
use Rattle.std.proofs.Common.{◌≡◌, ℕ, suc, ◌+◌, ◌<◌, Bool, true, false, not, ℤ, Option, None, Some, refl, sym, ap, ap₂, ◌∙◌, arith}
use Rattle.std.specs.Prelude.{is_some, option_map, if◌then◌else◌}
use Rattle.node_grid.specs.NodeSet.{has_id}
use Rattle.node_grid.specs.Count.{bit}
use Rattle.node_grid.specs.TruthFacts.{is_some_map}
use Rattle.scenario.specs.Scenario.{ScenarioView}
use Rattle.run_judged.specs.declared.tally.Loss.{Loss}
use Rattle.run_judged.specs.declared.tally.Tally.{Tally}
use Rattle.run_judged.specs.Numbers.{greater, lesser}
use Rattle.run_judged.specs.Growing.{or_now}
use Rattle.run_judged.specs.Rows.{is_spotless, charges_in, false_charges_in, false_exclusions_in, seen_of, is_within, is_claimed, lost_in, loss_at, margin_at, margin_upto, spread_at, skew_at}
use Rattle.run_judged.specs.Sums.{AreSums}
use Rattle.run_judged.proofs.Spans.{first_more}
use Rattle.run_judged.proofs.Totals.{total_more, greatest_more, least_more}

-- what period n adds to the sums
pub record Adds {N : ℕ} (sc : ScenarioView N) (n : ℕ) (t u : Tally N) : Type 0 where
  pub claimed : u.claimed ≡ t.claimed + bit (is_claimed sc n)
  pub lost : u.lost ≡ (if is_some t.lost then t.lost else (if is_within sc n then None else Some (loss_at sc n)))
  pub margin : u.margin ≡ lesser t.margin (if is_some t.lost then None else Some (margin_at sc n))
  pub charges : u.charges ≡ t.charges + charges_in (seen_of sc) sc.config.nodes n
  pub false_charges : u.false_charges ≡ t.false_charges + false_charges_in (seen_of sc) sc.config.nodes n
  pub false_exclusions : u.false_exclusions ≡ t.false_exclusions + false_exclusions_in (seen_of sc) sc.config.nodes n
  pub spread : u.spread ≡ greater t.spread (spread_at sc n)
  pub skew : u.skew ≡ greater t.skew (skew_at sc n)
  pub faulty : (j : ℕ) → j < sc.config.nodes → has_id u.faulty j ≡ not (is_spotless (seen_of sc) (suc n) j)

lost_by : {N : ℕ} (sc : ScenarioView N) (n : ℕ) (o : Option ℕ)
    → (if is_some (option_map (loss_at sc) o) then option_map (loss_at sc) o else (if is_within sc n then None else Some (loss_at sc n))) ≡ option_map (loss_at sc) (or_now o (not (is_within sc n)) n)
lost_by sc n (Some q) = refl
lost_by sc n None = elim (is_within sc n) as (λ b. (if b then None else Some (loss_at sc n)) ≡ option_map (loss_at sc) (or_now None (not b) n)) [ true ↦ refl | false ↦ refl ]

pub sums_more : {N : ℕ} (sc : ScenarioView N) (n : ℕ) (t u : Tally N) → AreSums sc n t → Adds sc n t u → AreSums sc (n + 1) u
sums_more sc n t u was adds =
    let seen = seen_of sc in
    let nodes = sc.config.nodes in
    let some : is_some t.lost ≡ is_some (lost_in sc n) = ap (λ (o : Option Loss). is_some o) was.lost ∙ is_some_map (loss_at sc) (lost_in sc n) in
    record {
      claimed = adds.claimed ∙ ap (λ (k : ℕ). k + bit (is_claimed sc n)) was.claimed ∙ sym (total_more (λ p. bit (is_claimed sc p)) n);
      lost = adds.lost ∙ ap (λ (o : Option Loss). if is_some o then o else (if is_within sc n then None else Some (loss_at sc n))) was.lost ∙ lost_by sc n (lost_in sc n)
          ∙ ap (option_map (loss_at sc)) (sym (first_more (λ p. not (is_within sc p)) 0 n (omega arith)));
      margin = adds.margin ∙ ap₂ (λ (o : Option ℤ) (b : Bool). lesser o (if b then None else Some (margin_at sc n))) was.margin some ∙ sym (least_more (margin_upto sc) n);
      charges = adds.charges ∙ ap (λ (k : ℕ). k + charges_in seen nodes n) was.charges ∙ sym (total_more (charges_in seen nodes) n);
      false_charges = adds.false_charges ∙ ap (λ (k : ℕ). k + false_charges_in seen nodes n) was.false_charges ∙ sym (total_more (false_charges_in seen nodes) n);
      false_exclusions = adds.false_exclusions ∙ ap (λ (k : ℕ). k + false_exclusions_in seen nodes n) was.false_exclusions ∙ sym (total_more (false_exclusions_in seen nodes) n);
      spread = adds.spread ∙ ap (λ (o : Option ℕ). greater o (spread_at sc n)) was.spread ∙ sym (greatest_more (spread_at sc) n);
      skew = adds.skew ∙ ap (λ (o : Option ℕ). greater o (skew_at sc n)) was.skew ∙ sym (greatest_more (skew_at sc) n);
      faulty = λ j low. adds.faulty j low ∙ ap (λ (k : ℕ). not (is_spotless seen k j)) (let e : suc n ≡ n + 1 = omega arith in e);
    }
