-- What the periods of a scenario promise, over the definitions alone.
use Rattle.std.specs.Prelude.{◌≡◌, ℕ, ◌+◌, ℤ, true, ◌↔◌, Option, Some}
use Rattle.node_grid.specs.Class.{is_sound}
use Rattle.node_grid.specs.NodeSet.{has_id}
use Rattle.mme_vote.specs.declared.channel.Channel.TheVariants.{Copy}
use Rattle.clock_skew.specs.Clock.{ClockView}
use Rattle.agreed_state.specs.Agreed.{AgreedView}
use Rattle.protocol.specs.View.{channel}
use Rattle.protocol.specs.Cluster.{Cluster, view}
use Rattle.protocol.specs.Run.{System, run, classes}
use Rattle.protocol.specs.Safe.{Classing, KeepsBound, Claim, members_at, CopiesClose, Safe}
use Rattle.protocol.specs.Clocks.{ClocksNear}
use Rattle.safety.specs.Convictions.{ConvictionsHold}
use Rattle.safety.specs.Convergence.{ValuesConverge, StartsConverge, ClocksSettle, StartedClocks}
use Rattle.safety.specs.Lifetime.{HaveStanding, WellSpared, AllRecover, AllReturn, AllRemain, ContinuousLight, AccusedLeave}
use Rattle.safety.specs.Manifest.{AllNote, ManifestLeave, SilentLeave}
use Rattle.scenario.specs.Scenario.{ScenarioView, system_of, IsScenario}
use Rattle.cluster_periods.specs.Record.{period_record}

-- a record tells whether its period tolerates its faults, and whether each period up to it does
pub record TellsClaims (sys : System) (clock : Option ClockView) (p : ℕ) : Type 0 where
  pub within : (period_record sys clock p).within ≡ true ↔ KeepsBound (run sys) (classes sys) p
  pub claim : (period_record sys clock p).claim ≡ true ↔ Claim (run sys) (classes sys) p

abbrev pub ClaimLaw : Type 0
ClaimLaw = (sys : System) (clock : Option ClockView) (p : ℕ) → TellsClaims sys clock p

-- the run of a scenario, its classes, and a period whose record says that it is claimed
abbrev pub run_of : {N : ℕ} → ScenarioView N → Cluster
run_of sc = run (system_of sc)

abbrev pub classes_of : {N : ℕ} → ScenarioView N → Classing
classes_of sc = classes (system_of sc)

abbrev pub IsClaimed : {N : ℕ} → ScenarioView N → ℕ → Type 0
IsClaimed sc p = (period_record (system_of sc) sc.clock p).claim ≡ true

-- each claimed period of a scenario is safe
abbrev pub SafeLaw : Type 0
SafeLaw = (N : ℕ) (sc : ScenarioView N) (p : ℕ) → IsScenario sc → IsClaimed sc p → Safe (run_of sc) (classes_of sc) p

-- in it no sound node convicts a member that isn't asymmetric, and each convicts one of which enough nonfaulty members heard something else
abbrev pub ConvictionLaw : Type 0
ConvictionLaw =
    (N : ℕ) (sc : ScenarioView N) (p : ℕ) → IsScenario sc → IsClaimed sc p → ConvictionsHold (run_of sc) (classes_of sc) p (members_at (run_of sc) (classes_of sc) p)

-- in it sound nodes have one group of copies for each due copy channel, and their votes are close within it, where it tolerates so many lies
abbrev pub CopyLaw : Type 0
CopyLaw =
    (N : ℕ) (sc : ScenarioView N) (p : ℕ) → IsScenario sc → IsClaimed sc p
    → (i j c : ℕ) (a : AgreedView) (delta : ℤ) (t lies : ℕ) → is_sound (classes_of sc p i) ≡ true → is_sound (classes_of sc p j) ≡ true
    → (view (run_of sc) i p).before ≡ Some a → has_id (view (run_of sc) i p).due c ≡ true → channel (run_of sc).setting c ≡ Copy delta t lies
    → CopiesClose (run_of sc) (classes_of sc) p a i j c t lies

-- and in it the clocks of sound nodes are near, where there are clocks
abbrev pub ClockLaw : Type 0
ClockLaw =
    (N : ℕ) (sc : ScenarioView N) (p : ℕ) → IsScenario sc → IsClaimed sc p
    → (c : ClockView) → sc.clock ≡ Some c → (i j : ℕ) → is_sound (classes_of sc p i) ≡ true → is_sound (classes_of sc p j) ≡ true
    → ClocksNear (run_of sc) (classes_of sc) c p (members_at (run_of sc) (classes_of sc) p) i j

-- what the periods from p to p + k come to, where the last of them is claimed: values and clocks converge, a node that is well recovers, returns and
-- remains, one that all accuse leaves, and so does one whose faults all see alike, or of which nothing is heard
pub record Lasting {N : ℕ} (sc : ScenarioView N) (p k : ℕ) : Type 0 where
  pub values : ValuesConverge (system_of sc) p k
  pub clocks : (c : ClockView) → sc.clock ≡ Some c → ClocksSettle (system_of sc) c p k
  pub recovery : AllRecover (system_of sc) p k
  pub returning : AllReturn (system_of sc) p k
  pub remaining : AllRemain (system_of sc) p k
  pub exclusion : AccusedLeave (system_of sc) p k
  pub manifest : ManifestLeave (system_of sc) p k
  pub silence : SilentLeave (system_of sc) p k

-- what all periods up to a claimed one come to: how near values and clocks are by their starts, what standing each sound node holds, whom nobody
-- accuses, of whom all note a fault, who stays a member below the bound of exclusion, and what each stretch of periods that ends with this one
-- comes to
pub record Lifetimes {N : ℕ} (sc : ScenarioView N) (p : ℕ) : Type 0 where
  pub starts : StartsConverge (system_of sc) p
  pub clocks : (c : ClockView) → sc.clock ≡ Some c → StartedClocks (system_of sc) c p
  pub standing : HaveStanding (system_of sc) p
  pub well : WellSpared (system_of sc) p
  pub manifest : AllNote (system_of sc) p
  pub light : ContinuousLight (system_of sc) p
  pub lasting : (q k : ℕ) → q + k ≡ p → Lasting sc q k

abbrev pub LifetimeLaw : Type 0
LifetimeLaw = (N : ℕ) (sc : ScenarioView N) (p : ℕ) → IsScenario sc → IsClaimed sc p → Lifetimes sc p

-- all that is promised of a period
pub record Promises {N : ℕ} (sc : ScenarioView N) (p : ℕ) : Type 0 where
  pub safe : Safe (run_of sc) (classes_of sc) p
  pub convictions : ConvictionsHold (run_of sc) (classes_of sc) p (members_at (run_of sc) (classes_of sc) p)
  pub copies : (i j c : ℕ) (a : AgreedView) (delta : ℤ) (t lies : ℕ) → is_sound (classes_of sc p i) ≡ true → is_sound (classes_of sc p j) ≡ true
      → (view (run_of sc) i p).before ≡ Some a → has_id (view (run_of sc) i p).due c ≡ true → channel (run_of sc).setting c ≡ Copy delta t lies
      → CopiesClose (run_of sc) (classes_of sc) p a i j c t lies
  pub clocks : (c : ClockView) → sc.clock ≡ Some c → (i j : ℕ) → is_sound (classes_of sc p i) ≡ true → is_sound (classes_of sc p j) ≡ true
      → ClocksNear (run_of sc) (classes_of sc) c p (members_at (run_of sc) (classes_of sc) p) i j
  pub lifetimes : Lifetimes sc p

-- it holds of each claimed period of a scenario
abbrev pub PromiseLaw : Type 0
PromiseLaw = (N : ℕ) (sc : ScenarioView N) (p : ℕ) → IsScenario sc → IsClaimed sc p → Promises sc p

-- scenarios that differ only in the node with which deliveries begin have the same periods
abbrev pub OrderLaw : Type 0
OrderLaw = (N : ℕ) (sc : ScenarioView N) (order p : ℕ) → period_record (system_of (record sc { order = order })) sc.clock p ≡ period_record (system_of sc) sc.clock p
