-- What the summary of a scenario's run tells: sums over its periods, and what the last of them leaves.
use Rattle.std.specs.Prelude.{ℕ, ◌-◌, Bool, not, ◌&&◌, List, length, replicate, Option, None, Some, option_and_then, slice_get}
use Rattle.std.specs.List.{sum_by}
use Rattle.node_grid.specs.NodeSet.{ids_below, has_id}
use Rattle.node_grid.specs.Count.{count}
use Rattle.agreed_state.specs.Agreed.{AgreedView}
use Rattle.protocol.specs.Run.{System, members_in}
use Rattle.scenario.specs.Scenario.{ScenarioView, system_of}
use Rattle.cluster_periods.specs.Record.{PeriodView, period_record}
use Rattle.run_text.specs.StormText.{StormView}

-- ---- sums

-- how many of the first nodes are in the first set and not in the second
unfoldable pub lost : ℕ → List ℕ → List ℕ → ℕ
lost nodes xs ys = count (λ j. has_id xs j && not (has_id ys j)) (ids_below nodes)

-- of how many periods below n a test holds
unfoldable pub how_many : (ℕ → Bool) → ℕ → ℕ
how_many test n = count test (ids_below n)

-- the sum over the periods below n
unfoldable pub total : (ℕ → ℕ) → ℕ → ℕ
total f n = sum_by f (ids_below n)

-- ---- of one period

-- what is shown of a period of a run. Clocks change nothing of what is summed up
abbrev pub shown_at : System → ℕ → PeriodView
shown_at sys p = period_record sys None p

-- the agreed state of the period's reference node after it
abbrev pub state_after : PeriodView → Option AgreedView
state_after r = option_and_then (λ o. o.agreed) (option_and_then (slice_get r.records) r.reference)

-- how many nodes are members before the period and not after it, and the other way round
abbrev pub excluded : PeriodView → ℕ
excluded r = lost r.nodes r.members (members_in (state_after r))

abbrev pub readmitted : PeriodView → ℕ
readmitted r = lost r.nodes (members_in (state_after r)) r.members

-- the penalty counts in a state; 0 each without one
abbrev pub counts_in : Option AgreedView → List ℕ
counts_in None = replicate 8 0
counts_in (Some a) = a.standing.counts

-- ---- of a run

-- the summary of a scenario that was made from this number
abbrev pub summary_of : ℕ → ScenarioView 8 → StormView
summary_of seed sc = record {
  seed = seed;
  periods = sc.periods;
  claimed = how_many (λ p. (shown_at (system_of sc) p).claim) sc.periods;
  lines = length sc.plan.lines;
  restarts = length sc.plan.restarts;
  excluded = total (λ p. excluded (shown_at (system_of sc) p)) sc.periods;
  readmitted = total (λ p. readmitted (shown_at (system_of sc) p)) sc.periods;
  members = members_in (state_after (shown_at (system_of sc) (sc.periods - 1)));
  counts = counts_in (state_after (shown_at (system_of sc) (sc.periods - 1)));
  nodes = sc.config.nodes;
}
