-- The row of a run: what its periods amount to.
use Rattle.std.specs.Prelude.{ℕ, suc, ℤ, Bool, not, ◌&&◌, List, length, Option, None, Some, is_some, option_map, if◌then◌else◌}
use Rattle.std.specs.List.{list_all, filter_map}
use Rattle.node_grid.specs.NodeSet.{ids_below}
use Rattle.node_grid.specs.Class.{is_nonfaulty}
use Rattle.node_grid.specs.Count.{bit, count}
use Rattle.scenario.specs.Scenario.{ScenarioView, system_of}
use Rattle.cluster_periods.specs.Record.{PeriodView, period_record}
use Rattle.run_judged.specs.declared.illness.Illness.{Illness}
use Rattle.run_judged.specs.declared.illness.Sign.{Sign}
use Rattle.run_judged.specs.declared.tally.Loss.{Loss}
use Rattle.run_judged.specs.declared.row.RunRow.{RunRow}
use Rattle.run_judged.specs.Numbers.{total, greatest, least, first_in}
use Rattle.run_judged.specs.Illnesses.{is_ill, illnesses}
use Rattle.run_judged.specs.Margins.{margin}
use Rattle.run_judged.specs.Signs.{sign_in}
use Rattle.run_judged.specs.Apart.{spread_in, skew_in}

-- ---- of the nodes below a bound, by what is seen of them in each period

-- whether node j was nonfaulty in all periods below n
abbrev pub is_spotless : (ℕ → ℕ → Sign) → ℕ → ℕ → Bool
is_spotless seen n j = list_all (λ p. is_nonfaulty (seen j p).class) (ids_below n)

module _ (seen : ℕ → ℕ → Sign) (nodes : ℕ) where
  -- how many nodes are charged in a period and aren't sound
  abbrev pub charges_in : ℕ → ℕ
  charges_in p = count (λ j. (seen j p).charged && is_ill (seen j) p) (ids_below nodes)

  -- how many are charged, or leave the members after it, that were nonfaulty in all periods up to it
  abbrev pub false_charges_in : ℕ → ℕ
  false_charges_in p = count (λ j. (seen j p).charged && is_spotless seen (suc p) j) (ids_below nodes)

  abbrev pub false_exclusions_in : ℕ → ℕ
  false_exclusions_in p = count (λ j. (seen j p).left && is_spotless seen (suc p) j) (ids_below nodes)

-- ---- of a scenario's run

module _ {N : ℕ} (sc : ScenarioView N) where
  -- what is shown of a period, and of node j in it
  abbrev pub period_of : ℕ → PeriodView
  period_of p = period_record (system_of sc) sc.clock p

  unfoldable pub seen_of : ℕ → ℕ → Sign
  seen_of j p = sign_in sc.plan (period_of p) j

  -- whether it tolerates its faults, and whether it and all before it do
  unfoldable pub is_within : ℕ → Bool
  is_within p = (period_of p).within

  unfoldable pub is_claimed : ℕ → Bool
  is_claimed p = (period_of p).claim

  -- the first of n periods that doesn't
  abbrev pub lost_in : ℕ → Option ℕ
  lost_in n = first_in (λ p. not (is_within p)) 0 n

  unfoldable pub loss_at : ℕ → Loss
  loss_at p = record { period = p; budget = (period_of p).budget }

  -- the margin of a period up to that one
  unfoldable pub margin_at : ℕ → ℤ
  margin_at p = margin (period_of p).budget sc.config.m

  abbrev pub margin_upto : ℕ → Option ℤ
  margin_upto p = if is_some (lost_in p) then None else Some (margin_at p)

  -- how far votes on a channel, and clocks, of sound nodes are apart in a claimed period
  unfoldable pub spread_at : ℕ → Option ℕ
  spread_at p = spread_in (period_of p) (length sc.config.channels.items)

  unfoldable pub skew_at : ℕ → Option ℕ
  skew_at p = skew_in (period_of p)

  -- the row, and the illnesses by onset, then by node
  abbrev pub row_of : RunRow
  row_of = record {
    nodes = sc.config.nodes;
    m = sc.config.m;
    periods = sc.periods;
    lines = length sc.plan.lines;
    restarts = length sc.plan.restarts;
    claimed = total (λ p. bit (is_claimed p)) sc.periods;
    lost = option_map loss_at (lost_in sc.periods);
    margin = least margin_upto sc.periods;
    charges = total (charges_in seen_of sc.config.nodes) sc.periods;
    false_charges = total (false_charges_in seen_of sc.config.nodes) sc.periods;
    false_exclusions = total (false_exclusions_in seen_of sc.config.nodes) sc.periods;
    spread = greatest spread_at sc.periods;
    skew = greatest skew_at sc.periods;
  }

  abbrev pub illnesses_of : List Illness
  illnesses_of = illnesses seen_of sc.config.nodes sc.periods

  -- how far clocks are apart after each claimed period, from period 0 on
  abbrev pub skews_of : List ℕ
  skews_of = filter_map skew_at (ids_below sc.periods)
