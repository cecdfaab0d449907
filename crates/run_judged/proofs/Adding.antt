-- What the parts of a tally's step make of it.
use Rattle.std.proofs.Common.{◌≡◌, ℕ, suc, ◌+◌, ◌*◌, ◌<◌, ◌≤◌, Bool, not, ◌&&◌, ℤ, List, length, Option, None, Some, sym, ap, ap₂, subst, ◌∙◌, arith}
use Rattle.std.specs.Prelude.{is_some, if◌then◌else◌}
use Rattle.node_grid.specs.NodeSet.{ids_below, has_id, union_of}
use Rattle.std.proofs.lemmas.Nat.{mul-le}
use Rattle.node_grid.specs.Count.{bit, count}
use Rattle.node_grid.specs.ListLaws.{bit_le}
use Rattle.node_grid.specs.SetFacts.{count_few}
use Rattle.scenario.specs.Scenario.{ScenarioView}
use Rattle.cluster_periods.specs.Record.{PeriodView}
use Rattle.shown_period.specs.declared.shown.Shown.{Shown}
use Rattle.shown_period.specs.Whole.{record_of}
use Rattle.at_once.specs.Run.{ShowsPeriod}
use Rattle.run_judged.specs.declared.tally.Loss.{Loss}
use Rattle.run_judged.specs.declared.tally.Tally.{Tally}
use Rattle.run_judged.specs.declared.found.Findings.{Findings}
use Rattle.run_judged.specs.Numbers.{total, greater, lesser}
use Rattle.run_judged.specs.Illnesses.{is_ill}
use Rattle.run_judged.specs.Margins.{margin}
use Rattle.run_judged.specs.Found.{AreFound}
use Rattle.run_judged.specs.Apart.{spread_in, skew_in}
use Rattle.run_judged.specs.Rows.{is_spotless, charges_in, false_charges_in, false_exclusions_in, seen_of, is_within, is_claimed, loss_at, margin_at, spread_at, skew_at}
use Rattle.run_judged.specs.Sums.{AreSums}
use Rattle.run_judged.proofs.Agreeing.{charges_found, spotless_found, false_charges_found, false_exclusions_found}
use Rattle.run_judged.proofs.Totals.{total_le}
use Rattle.run_judged.proofs.Summed.{Adds, sums_more}

module _ {capacity : ℕ} (sc : ScenarioView capacity) (s : Shown capacity) (p : ℕ) (shown : ShowsPeriod sc p s) where
  pub within_shown : s.head.within ≡ is_within sc p
  unfolding is_within
  within_shown = ap (λ (r : PeriodView). r.within) shown

  pub claim_shown : s.head.claim ≡ is_claimed sc p
  unfolding is_claimed
  claim_shown = ap (λ (r : PeriodView). r.claim) shown

  pub loss_shown : record { period = p; budget = s.head.budget } ≡ loss_at sc p
  unfolding loss_at
  loss_shown = ap (λ (r : PeriodView). record { period = p; budget = r.budget }) shown

  pub margin_shown : s.head.m ≡ sc.config.m → margin s.head.budget s.head.m ≡ margin_at sc p
  unfolding margin_at
  margin_shown m = ap (margin s.head.budget) m ∙ ap (λ (r : PeriodView). margin r.budget sc.config.m) shown

  pub spread_shown : spread_in (record_of s) (length sc.config.channels.items) ≡ spread_at sc p
  unfolding spread_at
  spread_shown = ap (λ (r : PeriodView). spread_in r (length sc.config.channels.items)) shown

  pub skew_shown : skew_in (record_of s) ≡ skew_at sc p
  unfolding skew_at
  skew_shown = ap skew_in shown

module _ {capacity : ℕ} (sc : ScenarioView capacity) (s : Shown capacity) (f : Findings capacity) (found : AreFound (seen_of sc) sc.config.nodes f.period f) (shown : ShowsPeriod sc f.period s)
    (fits : sc.config.nodes ≤ capacity) (m : s.head.m ≡ sc.config.m) where
  abbrev all_faulty : Tally capacity → List ℕ
  all_faulty t = union_of capacity t.faulty f.faulty

  -- the tally with the budget, with the charges, and with the claim
  abbrev budgeted : Tally capacity → Tally capacity
  budgeted t = record t {
    lost = if is_some t.lost then t.lost else (if s.head.within then None else Some (record { period = f.period; budget = s.head.budget }));
    margin = lesser t.margin (if is_some t.lost then None else Some (margin s.head.budget s.head.m));
  }

  abbrev charged : Tally capacity → Tally capacity
  charged t = record t {
    faulty = all_faulty t;
    charges = t.charges + count (λ j. has_id f.charged j && not (has_id f.sound j)) (ids_below f.nodes);
    false_charges = t.false_charges + count (λ j. has_id f.charged j && not (has_id (all_faulty t) j)) (ids_below f.nodes);
    false_exclusions = t.false_exclusions + count (λ j. has_id f.left j && not (has_id (all_faulty t) j)) (ids_below f.nodes);
  }

  abbrev claimed : Option ℕ → Option ℕ → Tally capacity → Tally capacity
  claimed spread skew t = record t { claimed = t.claimed + bit s.head.claim; spread = greater t.spread spread; skew = greater t.skew skew }

  spotless : (t : Tally capacity) → AreSums sc f.period t → (j : ℕ) → j < sc.config.nodes → has_id (all_faulty t) j ≡ not (is_spotless (seen_of sc) (suc f.period) j)
  spotless t was = spotless_found (seen_of sc) sc.config.nodes f.period f found t.faulty fits was.faulty

  lost_is : (t : Tally capacity) → (budgeted t).lost ≡ (if is_some t.lost then t.lost else (if is_within sc f.period then None else Some (loss_at sc f.period)))
  lost_is t =
      ap₂ (λ (b : Bool) (l : Loss). if is_some t.lost then t.lost else (if b then None else Some l)) (within_shown sc s f.period shown) (loss_shown sc s f.period shown)

  margin_is : (t : Tally capacity) → (budgeted t).margin ≡ lesser t.margin (if is_some t.lost then None else Some (margin_at sc f.period))
  margin_is t = ap (λ (x : ℤ). lesser t.margin (if is_some t.lost then None else Some x)) (margin_shown sc s f.period shown m)

  adds : (t : Tally capacity) (spread skew : Option ℕ) → spread ≡ spread_at sc f.period → skew ≡ skew_at sc f.period → AreSums sc f.period t → Adds sc f.period t (claimed spread skew (charged (budgeted t)))
  adds t spread skew a b was = record {
    claimed = ap (λ (x : Bool). t.claimed + bit x) (claim_shown sc s f.period shown);
    lost = lost_is t;
    margin = margin_is t;
    charges = ap (λ (k : ℕ). t.charges + count (λ j. has_id f.charged j && not (has_id f.sound j)) (ids_below k)) found.nodes
        ∙ ap (λ (k : ℕ). t.charges + k) (charges_found (seen_of sc) sc.config.nodes f.period f found);
    false_charges = ap (λ (k : ℕ). t.false_charges + count (λ j. has_id f.charged j && not (has_id (all_faulty t) j)) (ids_below k)) found.nodes
        ∙ ap (λ (k : ℕ). t.false_charges + k) (false_charges_found (seen_of sc) sc.config.nodes f.period f found (all_faulty t) (spotless t was));
    false_exclusions = ap (λ (k : ℕ). t.false_exclusions + count (λ j. has_id f.left j && not (has_id (all_faulty t) j)) (ids_below k)) found.nodes
        ∙ ap (λ (k : ℕ). t.false_exclusions + k) (false_exclusions_found (seen_of sc) sc.config.nodes f.period f found (all_faulty t) (spotless t was));
    spread = ap (greater t.spread) a;
    skew = ap (greater t.skew) b;
    faulty = spotless t was;
  }

  pub added : (t u v w : Tally capacity) (spread skew : Option ℕ) → u ≡ budgeted t → v ≡ charged u → w ≡ claimed spread skew v → spread ≡ spread_at sc f.period → skew ≡ skew_at sc f.period
      → AreSums sc f.period t → AreSums sc (f.period + 1) w
  added t u v w spread skew d e g a b was =
      let all : w ≡ claimed spread skew (charged (budgeted t)) = g ∙ ap (claimed spread skew) (e ∙ ap charged d) in
      subst (λ (x : Tally capacity). AreSums sc (f.period + 1) x) (sym all) (sums_more sc f.period t (claimed spread skew (charged (budgeted t))) was (adds t spread skew a b was))

-- ---- no sum is too large

few_total : (f : ℕ → ℕ) (nodes n k : ℕ) → ((p : ℕ) → f p ≤ nodes) → nodes ≤ 16 → n < 1024 → k ≡ total f n → k ≤ 16384
few_total f nodes n k each few early e =
    let sum = total_le f nodes n each in
    let most : nodes * n ≤ 16 * 1024 = mul-le nodes n 16 1024 few (omega arith) in
    omega arith

pub few_charges : {capacity : ℕ} (sc : ScenarioView capacity) (n : ℕ) (t : Tally capacity) → AreSums sc n t → sc.config.nodes ≤ 16 → n < 1024 → t.charges ≤ 16384
few_charges sc n t was few early =
    few_total (charges_in (seen_of sc) sc.config.nodes) sc.config.nodes n t.charges (λ p. count_few (λ j. (seen_of sc j p).charged && is_ill (seen_of sc j) p) sc.config.nodes) few early was.charges

pub few_false_charges : {capacity : ℕ} (sc : ScenarioView capacity) (n : ℕ) (t : Tally capacity) → AreSums sc n t → sc.config.nodes ≤ 16 → n < 1024 → t.false_charges ≤ 16384
few_false_charges sc n t was few early =
    few_total (false_charges_in (seen_of sc) sc.config.nodes) sc.config.nodes n t.false_charges (λ p. count_few (λ j. (seen_of sc j p).charged && is_spotless (seen_of sc) (suc p) j) sc.config.nodes) few early was.false_charges

pub few_false_exclusions : {capacity : ℕ} (sc : ScenarioView capacity) (n : ℕ) (t : Tally capacity) → AreSums sc n t → sc.config.nodes ≤ 16 → n < 1024 → t.false_exclusions ≤ 16384
few_false_exclusions sc n t was few early =
    few_total (false_exclusions_in (seen_of sc) sc.config.nodes) sc.config.nodes n t.false_exclusions (λ p. count_few (λ j. (seen_of sc j p).left && is_spotless (seen_of sc) (suc p) j) sc.config.nodes) few early was.false_exclusions

pub few_claimed : {capacity : ℕ} (sc : ScenarioView capacity) (n : ℕ) (t : Tally capacity) → AreSums sc n t → n < 1024 → t.claimed ≤ 1024
few_claimed sc n t was early =
    let sum = total_le (λ p. bit (is_claimed sc p)) 1 n (λ p. bit_le (is_claimed sc p)) in
    let is = was.claimed in
    omega arith
