-- What becomes of one node over many claimed periods: when it is charged with nothing, when it is a member again, and when it is out.
use Rattle.std.specs.Prelude.{ℕ, suc, ◌≡◌, ◌≢◌, ◌+◌, ◌-◌, ◌*◌, ◌/◌, ◌%◌, ◌<◌, ◌≤◌, ◌⊎◌, true, false, Some, slice_index}
use Rattle.node_grid.specs.declared.class.Class.TheVariants.{N}
use Rattle.node_grid.specs.Version.{kind_count}
use Rattle.node_grid.specs.Class.{is_sound}
use Rattle.node_grid.specs.NodeSet.{has_id}
use Rattle.error_reports.specs.Charge.{accuses, charged}
use Rattle.membership.specs.Members.{Standing}
use Rattle.agreed_state.specs.Agreed.{AgreedView, fold}
use Rattle.protocol.specs.Cluster.{Cluster, view}
use Rattle.protocol.specs.Run.{System, run, classes}
use Rattle.protocol.specs.Safe.{Classing, members_at, rows_at, IsContinuous, AllAccuse}
use Rattle.safety.specs.Rows.{CanCharge}
use Rattle.safety.specs.Convergence.{OfEachClaimed, OfAllClaimed}

-- ---- the standing before a period: members, counts, streaks and how often each node left

-- the fold of the settled rows of the reference nodes of all periods before p
abbrev pub standing_at : Cluster → Classing → ℕ → Standing
standing_at cl class_of p = fold cl.setting.capacity cl.setting.config (rows_at cl class_of) p

abbrev pub standing_of : System → ℕ → Standing
standing_of sys p = standing_at (run sys) (classes sys) p

-- node i goes through period p with the standing before it, and ends it with that of the next one
pub record HasStanding (cl : Cluster) (class_of : Classing) (p i : ℕ) : Type 0 where
  pub before : AgreedView
  pub goes : (view cl i p).before ≡ Some before
  pub stands : before.standing ≡ standing_at cl class_of p
  pub after : AgreedView
  pub ends : (view cl i p).kept.state ≡ Some after
  pub stands_after : after.standing ≡ standing_at cl class_of (suc p)

abbrev pub HaveStanding : System → ℕ → Type 0
HaveStanding sys p = (i : ℕ) → is_sound (classes sys p i) ≡ true → HasStanding (run sys) (classes sys) p i

abbrev pub StandingLaw : Type 0
StandingLaw = OfEachClaimed HaveStanding

-- ---- once well

-- node j is nonfaulty in period p, and in the one before it, if there is one
abbrev pub IsWell : Classing → ℕ → ℕ → Type 0
IsWell class_of j p = (q : ℕ) → q ≤ p → p ≤ suc q → class_of q j ≡ N

-- node j is nonfaulty in each of the periods from p to p + k
abbrev pub IsNonfaulty : Classing → ℕ → ℕ → ℕ → Type 0
IsNonfaulty class_of j p k = (q : ℕ) → p ≤ q → q ≤ p + k → class_of q j ≡ N

-- in period p no other nonfaulty node accuses node j of any kind, and no sound node's settled rows charge it with one
pub record IsSpared (cl : Cluster) (class_of : Classing) (p j : ℕ) : Type 0 where
  pub unaccused : (i k : ℕ) → class_of p i ≡ N → j ≢ i → accuses (view cl i p).found j k ≡ false
  pub uncharged : (i k : ℕ) → is_sound (class_of p i) ≡ true → charged (view cl i p).rows (standing_at cl class_of p).members j k ≡ false

-- a node that is well is spared, whether it is a member or not
abbrev pub WellSpared : System → ℕ → Type 0
WellSpared sys p = (j : ℕ) → IsWell (classes sys) j p → IsSpared (run sys) (classes sys) p j

abbrev pub WellLaw : Type 0
WellLaw = OfEachClaimed WellSpared

-- from the end of period p to that of period p + k the count of node j falls by the credit with each full streak, and does nothing else
pub record Recovers (cl : Cluster) (class_of : Classing) (p k j : ℕ) : Type 0 where
  pub count : slice_index (standing_at cl class_of (suc (p + k))).counts j
      ≡ slice_index (standing_at cl class_of (suc p)).counts j
      - cl.setting.config.policy.credit * ((slice_index (standing_at cl class_of (suc p)).streaks j + k) / cl.setting.config.policy.streak)
  pub streak : slice_index (standing_at cl class_of (suc (p + k))).streaks j ≡ (slice_index (standing_at cl class_of (suc p)).streaks j + k) % cl.setting.config.policy.streak

abbrev pub AllRecover : System → ℕ → ℕ → Type 0
AllRecover sys p k = (j : ℕ) → IsNonfaulty (classes sys) j p k → Recovers (run sys) (classes sys) p k j

abbrev pub RecoveryLaw : Type 0
RecoveryLaw = OfAllClaimed AllRecover

-- ---- back among the members

-- how many full streaks a count takes until it lets a node join: what it is above `readmit` by the credit, rounded up
abbrev pub streaks_needed : ℕ → ℕ → ℕ → ℕ
streaks_needed credit readmit count = (count - readmit + (credit - 1)) / credit

-- before period p node j has left less often than makes it retire, and is no member whose count is at the bound of exclusion, who may leave
-- without another charge
abbrev pub MayReturn : Cluster → Classing → ℕ → ℕ → Type 0
MayReturn cl class_of p j =
    (cl.setting.config.policy.retire ≡ 0)
    ⊎ ((slice_index (standing_at cl class_of p).left j < cl.setting.config.policy.retire)
    × (has_id (standing_at cl class_of p).members j ≡ true → slice_index (standing_at cl class_of p).counts j < cl.setting.config.policy.exclude))

-- a node that is nonfaulty from period p on is a member after period p + k, where k and the streak that it has after p make up as many full
-- streaks as its count then needs, which is at most `most`
abbrev pub AllReturn : System → ℕ → ℕ → Type 0
AllReturn sys p k =
    (j : ℕ) → IsNonfaulty (classes sys) j p k → 0 < k → 0 < sys.setting.config.policy.credit → MayReturn (run sys) (classes sys) (suc p) j
    → (most : ℕ) → slice_index (standing_of sys (suc p)).counts j ≤ most
    → sys.setting.config.policy.streak * streaks_needed sys.setting.config.policy.credit sys.setting.config.policy.readmit most ≤ slice_index (standing_of sys (suc p)).streaks j + k
    → has_id (standing_of sys (suc (p + k))).members j ≡ true

abbrev pub ReturnLaw : Type 0
ReturnLaw = OfAllClaimed AllReturn

-- a nonfaulty member whose count after period p is below the bound of exclusion remains a member
abbrev pub AllRemain : System → ℕ → ℕ → Type 0
AllRemain sys p k =
    (j : ℕ) → IsNonfaulty (classes sys) j p k → has_id (standing_of sys (suc p)).members j ≡ true → slice_index (standing_of sys (suc p)).counts j < sys.setting.config.policy.exclude
    → has_id (standing_of sys (suc (p + k))).members j ≡ true

abbrev pub RemainLaw : Type 0
RemainLaw = OfAllClaimed AllRemain

-- ---- out

-- in period p each nonfaulty member other than node j gives it one kind of at least this weight, and node j is no nonfaulty member or there is a
-- relay round
pub record IsAccused (cl : Cluster) (class_of : Classing) (p j weight : ℕ) : Type 0 where
  pub kind : ℕ
  pub is_listed : kind < kind_count cl.setting.config.version
  pub weighs : weight ≤ slice_index cl.setting.config.policy.weights kind
  pub can : CanCharge (class_of p) (members_at cl class_of p) cl.setting.config.m j
  pub accused : AllAccuse cl class_of p (members_at cl class_of p) j kind

-- node i is a member in period p, and its count after it is below the bound of exclusion. So not all members would leave, where none does
abbrev pub StaysLight : Cluster → Classing → ℕ → ℕ → Type 0
StaysLight cl class_of p i =
    (has_id (standing_at cl class_of p).members i ≡ true) × (slice_index (standing_at cl class_of (suc p)).counts i < cl.setting.config.policy.exclude)

-- each node does so that was nonfaulty throughout
abbrev pub ContinuousLight : System → ℕ → Type 0
ContinuousLight sys p = (i : ℕ) → IsContinuous (classes sys) i p → StaysLight (run sys) (classes sys) p i

abbrev pub LightLaw : Type 0
LightLaw = OfEachClaimed ContinuousLight

-- a node that is so accused in each of k + 1 periods is no member after them, where its count before them and the weights come to the bound of
-- exclusion, and some member stays light
abbrev pub AccusedLeave : System → ℕ → ℕ → Type 0
AccusedLeave sys p k =
    (j weight : ℕ) → j < sys.setting.config.nodes → ((q : ℕ) → p ≤ q → q ≤ p + k → IsAccused (run sys) (classes sys) q j weight)
    → (i : ℕ) → StaysLight (run sys) (classes sys) (p + k) i
    → sys.setting.config.policy.exclude ≤ slice_index (standing_of sys p).counts j + suc k * weight
    → has_id (standing_of sys (suc (p + k))).members j ≡ false

abbrev pub ExclusionLaw : Type 0
ExclusionLaw = OfAllClaimed AccusedLeave
