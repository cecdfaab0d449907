-- By when a node that fell ill has left the members, and by when it is back: what is promised over many periods, in the words of its illness.
use Rattle.std.specs.Prelude.{ℕ, suc, ◌≡◌, ◌<◌, ◌≤◌, ◌+◌, ◌*◌, true, Option, Some, slice_index}
use Rattle.node_grid.specs.Kinds.{missing}
use Rattle.safety.specs.Lifetime.{standing_of, streaks_needed, IsNonfaulty, IsAccused, StaysLight, MayReturn}
use Rattle.safety.specs.Manifest.{IsManifest, IsUnheard}
use Rattle.scenario.specs.Scenario.{ScenarioView, system_of, IsScenario}
use Rattle.cluster_periods.specs.Laws.{run_of, classes_of, IsClaimed}
use Rattle.run_judged.specs.declared.illness.Illness.{Illness}
use Rattle.run_judged.specs.Illnesses.{illness}
use Rattle.run_judged.specs.Rows.{seen_of}

-- there is such a period, and it is p or one before it
pub record IsBy (found : Option ℕ) (p : ℕ) : Type 0 where
  pub period : ℕ
  pub is : found ≡ Some period
  pub in_time : period ≤ p

module _ {N : ℕ} (sc : ScenarioView N) where
  -- the illness of node j that begins in period o
  abbrev pub illness_at : ℕ → ℕ → Illness
  illness_at j o = illness (seen_of sc j) sc.periods o j

  -- period p is one of the run, from the onset on, and before the node falls ill again
  pub record IsOf (j o p : ℕ) : Type 0 where
    pub begun : o ≤ p
    pub shown : p < sc.periods
    pub not_again : (q : ℕ) → (illness_at j o).relapse ≡ Some q → p < q

  -- the count of node j before period p and k + 1 times this weight come to the bound of exclusion, and some member stays below it
  pub record IsOverdue (j p k weight : ℕ) : Type 0 where
    pub heavy : sc.config.policy.exclude ≤ slice_index (standing_of (system_of sc) p).counts j + suc k * weight
    pub other : ℕ
    pub light : StaysLight (run_of sc) (classes_of sc) (p + k) other

  -- the node has left after period p + k at the latest where in each of the periods from p on all nonfaulty members accuse it, or all nodes see
  -- alike that it is faulty, or none hears of it
  pub record LeavesInTime (j o p k : ℕ) : Type 0 where
    pub accused : (weight : ℕ) → IsOverdue j p k weight → ((q : ℕ) → p ≤ q → q ≤ p + k → IsAccused (run_of sc) (classes_of sc) q j weight) → IsBy (illness_at j o).left (p + k)
    pub manifest : (weight : ℕ) → IsOverdue j p k weight
        → ((q : ℕ) → p ≤ q → q ≤ p + k → (kind : ℕ) × (weight ≤ slice_index sc.config.policy.weights kind) × IsManifest (system_of sc) q j kind) → IsBy (illness_at j o).left (p + k)
    pub silent : IsOverdue j p k (slice_index sc.config.policy.weights missing) → IsUnheard (system_of sc) j p k → IsBy (illness_at j o).left (p + k)

-- of a node that is a member when it is first accused
abbrev pub LeftLaw : Type 0
LeftLaw =
    (N : ℕ) (sc : ScenarioView N) (j o p k : ℕ) → IsScenario sc → IsClaimed sc (p + k) → j < sc.config.nodes → o ≤ p → IsOf sc j o (p + k) → (seen_of sc j p).member ≡ true
    → LeavesInTime sc j o p k

-- and one that left is back after period p + k at the latest where it is nonfaulty from period p on, and k and its streak make up as many full
-- streaks as its count then needs, which is at most `most`
abbrev pub BackLaw : Type 0
BackLaw =
    (N : ℕ) (sc : ScenarioView N) (j o p k most : ℕ) → IsScenario sc → IsClaimed sc (p + k) → j < sc.config.nodes → IsOf sc j o (p + k) → IsBy (illness_at sc j o).left p
    → IsNonfaulty (classes_of sc) j p k → 0 < k → 0 < sc.config.policy.credit → MayReturn (run_of sc) (classes_of sc) (suc p) j
    → slice_index (standing_of (system_of sc) (suc p)).counts j ≤ most
    → sc.config.policy.streak * streaks_needed sc.config.policy.credit sc.config.policy.readmit most ≤ slice_index (standing_of (system_of sc) (suc p)).streaks j + k
    → IsBy (illness_at sc j o).back (p + k)
