-- Faults of a node that all others see alike: which kind of error they note, and when it makes the node leave.
use Rattle.std.specs.Prelude.{ℕ, suc, ◌≡◌, ◌≢◌, ◌+◌, ◌*◌, ◌<◌, ◌≤◌, true, false, Option, None, Some, slice_index}
use Rattle.node_grid.specs.declared.class.Class.TheVariants.{N}
use Rattle.node_grid.specs.Kinds.{missing, malformed, timing, cold}
use Rattle.node_grid.specs.NodeSet.{has_id}
use Rattle.slot_plan.specs.Slots.{slot_count}
use Rattle.fault_classes.specs.Change.{Change}
use Rattle.fault_classes.specs.Change.Change.{Drop, Cut, Twice, Time, Set, Raw}
use Rattle.error_reports.specs.Charge.{accuses}
use Rattle.protocol.specs.Cluster.{begins, view}
use Rattle.protocol.specs.Run.{System, run, classes, change_at}
use Rattle.safety.specs.Convergence.{OfEachClaimed, OfAllClaimed}
use Rattle.safety.specs.Lifetime.{standing_of, StaysLight}

-- ---- what all see

-- the kind of error that a receiver finds of a frame by what befalls it, where that is manifest
abbrev pub manifest_kind : Option Change → Option ℕ
manifest_kind (Some Drop) = Some missing
manifest_kind (Some (Cut k)) = Some malformed
manifest_kind (Some Twice) = Some malformed
manifest_kind (Some (Time t)) = Some timing
manifest_kind _ = None

-- what befalls the frames that node j sends in a slot of period p is manifest, and of one kind at all other nodes in use
abbrev pub IsMarred : System → ℕ → ℕ → ℕ → ℕ → Type 0
IsMarred sys p slot j kind = (i : ℕ) → i < sys.setting.config.nodes → i ≢ j → manifest_kind (change_at sys p slot j i) ≡ Some kind

-- node j goes into period p without an agreed state, and no line touches its frames of slot 0, so that it says Cold there to all others
pub record SaysCold (sys : System) (p j : ℕ) : Type 0 where
  pub stateless : (begins (run sys) j p).state ≡ None
  pub untouched : (i : ℕ) → i < sys.setting.config.nodes → i ≢ j → change_at sys p 0 j i ≡ None

-- in period p all others have one kind of error to note of node j: of a slot up to that of values at once, of a slot of rows in the period after it,
-- and of a node that says Cold
pub data IsManifest (sys : System) (p j kind : ℕ) : Type 0 where
  at_once : (slot : ℕ) → slot ≤ sys.setting.config.m + 2 → IsMarred sys p slot j kind → IsManifest sys p j kind
  a_period_later : (q slot : ℕ) → p ≡ suc q → sys.setting.config.m + 3 ≤ slot → slot < slot_count sys.setting.config.m → IsMarred sys q slot j kind → IsManifest sys p j kind
  as_cold : kind ≡ cold → SaysCold sys p j → IsManifest sys p j kind

-- ---- what they note

-- in period p each nonfaulty node other than node j gives it this kind, and node j isn't nonfaulty itself
pub record IsNoted (sys : System) (p j kind : ℕ) : Type 0 where
  pub not_nonfaulty : classes sys p j ≢ N
  pub accused : (i : ℕ) → classes sys p i ≡ N → i ≢ j → accuses (view (run sys) i p).found j kind ≡ true

abbrev pub AllNote : System → ℕ → Type 0
AllNote sys p = (j kind : ℕ) → j < sys.setting.config.nodes → IsManifest sys p j kind → IsNoted sys p j kind

abbrev pub ManifestLaw : Type 0
ManifestLaw = OfEachClaimed AllNote

-- ---- when it leaves

-- a node of which there is such a kind of at least this weight to note in each of k + 1 periods, not always the same, is no member after them, where
-- its count before them and the weights come to the bound of exclusion, and some member stays light
abbrev pub ManifestLeave : System → ℕ → ℕ → Type 0
ManifestLeave sys p k =
    (j weight : ℕ) → j < sys.setting.config.nodes
    → ((q : ℕ) → p ≤ q → q ≤ p + k → (kind : ℕ) × (weight ≤ slice_index sys.setting.config.policy.weights kind) × IsManifest sys q j kind)
    → (i : ℕ) → StaysLight (run sys) (classes sys) (p + k) i
    → sys.setting.config.policy.exclude ≤ slice_index (standing_of sys p).counts j + suc k * weight
    → has_id (standing_of sys (suc (p + k))).members j ≡ false

abbrev pub ManifestExclusionLaw : Type 0
ManifestExclusionLaw = OfAllClaimed ManifestLeave

-- in each of the periods from p to p + k no frame of slot 0 arrives from node j at any other node in use
abbrev pub IsUnheard : System → ℕ → ℕ → ℕ → Type 0
IsUnheard sys j p k = (q i : ℕ) → p ≤ q → q ≤ p + k → i < sys.setting.config.nodes → i ≢ j → change_at sys q 0 j i ≡ Some Drop

-- so such a node is out after as many periods as the weight of missing frames takes to the bound
abbrev pub SilentLeave : System → ℕ → ℕ → Type 0
SilentLeave sys p k =
    (j : ℕ) → j < sys.setting.config.nodes → IsUnheard sys j p k
    → (i : ℕ) → StaysLight (run sys) (classes sys) (p + k) i
    → sys.setting.config.policy.exclude ≤ slice_index (standing_of sys p).counts j + suc k * slice_index sys.setting.config.policy.weights missing
    → has_id (standing_of sys (suc (p + k))).members j ≡ false

abbrev pub SilenceLaw : Type 0
SilenceLaw = OfAllClaimed SilentLeave
