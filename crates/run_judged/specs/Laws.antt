-- What is promised of the row of a run, and of its claimed periods.
use Rattle.std.specs.Prelude.{ℕ, ◌≡◌, ◌≤◌, ◌+◌, ◌*◌, ◌/◌, ℤ, pos, ◌≤ℤ◌, true, ◌↔◌, Option, None, Some, IsSome, unsigned_abs}
use Rattle.node_grid.specs.declared.class.Class.TheVariants.{N}
use Rattle.node_grid.specs.NodeSet.{has_id}
use Rattle.mme_vote.specs.Channel.{is_judged}
use Rattle.mme_vote.specs.Vote.{distance}
use Rattle.clock_skew.specs.Clock.{ClockView}
use Rattle.protocol.specs.View.{channel, own_in}
use Rattle.protocol.specs.Cluster.{view}
use Rattle.protocol.specs.Safe.{members_at}
use Rattle.protocol.specs.Clocks.{offsets}
use Rattle.scenario.specs.Scenario.{ScenarioView, IsScenario}
use Rattle.cluster_periods.specs.Laws.{run_of, classes_of, IsClaimed}
use Rattle.run_judged.specs.declared.row.RunRow.{RunRow}
use Rattle.run_judged.specs.declared.tally.Loss.{Loss}
use Rattle.run_judged.specs.Apart.{votes_apart, clocks_apart}
use Rattle.run_judged.specs.Rows.{period_of, seen_of, false_charges_in, false_exclusions_in, row_of}

-- ---- of a row

-- the period of a loss, or else n
abbrev pub until : Option Loss → ℕ → ℕ
until None n = n
until (Some l) n = l.period

-- the claimed periods are those before the loss; the margin is there, and at least 1 exactly where nothing is lost; and then nobody is
-- charged or excluded that was nonfaulty throughout
pub record IsSound (r : RunRow) : Type 0 where
  pub claimed : r.claimed ≡ until r.lost r.periods
  pub margin : IsSome r.margin
  pub kept : (x : ℤ) → r.margin ≡ Some x → pos 1 ≤ℤ x ↔ (r.lost ≡ None)
  pub charges : r.lost ≡ None → r.false_charges ≡ 0
  pub exclusions : r.lost ≡ None → r.false_exclusions ≡ 0

abbrev pub RowLaw : Type 0
RowLaw = (N : ℕ) (sc : ScenarioView N) → IsScenario sc → IsSound (row_of sc)

-- ---- of a claimed period

-- nobody is charged in it, or leaves the members after it, that was nonfaulty in all periods up to it
pub record SparesAll {N : ℕ} (sc : ScenarioView N) (p : ℕ) : Type 0 where
  pub charges : false_charges_in (seen_of sc) sc.config.nodes p ≡ 0
  pub exclusions : false_exclusions_in (seen_of sc) sc.config.nodes p ≡ 0

abbrev pub SparedLaw : Type 0
SparedLaw = (N : ℕ) (sc : ScenarioView N) (p : ℕ) → IsScenario sc → IsClaimed sc p → SparesAll sc p

-- numbers of the nonfaulty members of a period that lie from low to high
abbrev pub MembersWithin : {N : ℕ} → ScenarioView N → ℕ → (ℕ → ℤ) → ℤ → ℤ → Type 0
MembersWithin sc p f low high = (q : ℕ) → has_id (members_at (run_of sc) (classes_of sc) p) q ≡ true → classes_of sc p q ≡ N → (low ≤ℤ f q) × (f q ≤ℤ high)

-- the votes on a state or sensor channel are at most half as far apart as the nonfaulty members' own values, rounded up
abbrev pub SpreadLaw : Type 0
SpreadLaw =
    (N : ℕ) (sc : ScenarioView N) (p c d : ℕ) → IsScenario sc → IsClaimed sc p → is_judged (channel (run_of sc).setting c) ≡ true → votes_apart (period_of sc p) c ≡ Some d
    → (low high : ℤ) → MembersWithin sc p (λ q. own_in (view (run_of sc) q p).own c) low high → d ≤ (distance low high + 1) / 2

-- and the clocks half as far as theirs before it, rounded up, and twice the error and the drift
abbrev pub SkewLaw : Type 0
SkewLaw =
    (N : ℕ) (sc : ScenarioView N) (p d : ℕ) (k : ClockView) → IsScenario sc → IsClaimed sc p → sc.clock ≡ Some k → clocks_apart (period_of sc p) ≡ Some d
    → (low high : ℤ) → MembersWithin sc p (offsets (run_of sc) k p) low high → d ≤ (distance low high + 1) / 2 + 2 * unsigned_abs k.epsilon + unsigned_abs k.drift
