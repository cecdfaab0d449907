-- What sound nodes read of one item, and what the nodes of a run say and have of it.
use Rattle.std.specs.Prelude.{ℕ, ◌≡◌, ◌≢◌, ◌<◌, ◌≤◌, ◌+◌, true, false, List, [], ◌∷◌, ◌++◌, length}
use Rattle.node_grid.specs.declared.class.Class.{Class}
use Rattle.node_grid.specs.declared.class.Class.TheVariants.{N, S}
use Rattle.node_grid.specs.Class.{is_silent, is_sound}
use Rattle.omh_paths.specs.Wrapped.{wrapped}
use Rattle.omh_paths.specs.Paths.{IsPath}
use Rattle.omh.specs.Omh.{Hears}
use Rattle.slot_plan.specs.Slots.{slot_count, slot_number}
use Rattle.slot_plan.specs.declared.slot.Slot.TheVariants.{Data, Claims, Rows}
use Rattle.protocol.specs.Arrival.{is_good, arrival, body_said, claim_in, claims_in, values_in, row_in, rows_in}
use Rattle.protocol.specs.Arrival.Arrival.{Good}
use Rattle.protocol.specs.Heard.{Rounds, paths_of, with_entries, entry, heard}
use Rattle.protocol.specs.Cluster.{begins, view}
use Rattle.protocol.specs.Run.{System, members_in, expectation, said_in, goes_in, deliveries, run}
use Rattle.protocol.specs.Saying.{says}

-- where they go through the period with the same members: what nonfaulty nodes say comes as it is said, of silent ones nothing
-- is good, and what symmetric ones say comes to all alike
pub record Told {V : Type 0} (rounds : ℕ) (members : List ℕ) (class_of : ℕ → Class) (item : ℕ → V) (x : ℕ → Rounds V) : Type 0 where
  pub first_stands : (j i : ℕ) → class_of j ≡ N → is_sound (class_of i) ≡ true → j ≢ i → (x i).first j ≡ Good (item j)
  pub first_silent : (j i : ℕ) → is_silent (class_of j) ≡ true → is_sound (class_of i) ≡ true → j ≢ i → is_good ((x i).first j) ≡ false
  pub first_alike : (j i h : ℕ) → class_of j ≡ S → is_sound (class_of i) ≡ true → is_sound (class_of h) ≡ true → j ≢ i → j ≢ h → (x i).first j ≡ (x h).first j
  pub relay_good : (r j i : ℕ) → class_of j ≡ N → is_sound (class_of i) ≡ true → j ≢ i → 0 < r → r ≤ rounds → is_good ((x i).relay r j) ≡ true
  pub relay_stands : (path : List ℕ) (q i : ℕ) → 0 < length path → IsPath members rounds (path ++ q ∷ []) → class_of q ≡ N → Hears class_of (path ++ q ∷ []) i
      → entry ((x i).relay (length path) q) path ≡ wrapped (heard (x q) path)
  pub relay_silent : (r j i : ℕ) → is_silent (class_of j) ≡ true → is_sound (class_of i) ≡ true → j ≢ i → 0 < r → r ≤ rounds → is_good ((x i).relay r j) ≡ false
  pub relay_alike : (r j i h : ℕ) → class_of j ≡ S → is_sound (class_of i) ≡ true → is_sound (class_of h) ≡ true → j ≢ i → j ≢ h → 0 < r → r ≤ rounds → (x i).relay r j ≡ (x h).relay r j

-- ---- in a run

-- what node i has of the frames of a period is what it reads of the deliveries of the frames that are sent, by what it expects
pub record Delivers (sys : System) (p i : ℕ) : Type 0 where
  pub sync : (j : ℕ) → ((run sys).received i p).sync j ≡ arrival body_said (expectation sys p 0 j [] 0) (deliveries sys p 0 j i)
  pub claim : (j : ℕ) → ((run sys).received i p).done.first j ≡ arrival claim_in (expectation sys p 1 j (members_in (view (run sys) i p).before) 0) (deliveries sys p 1 j i)
  pub claims : (r j : ℕ) → 0 < r → r ≤ sys.setting.config.m → ((run sys).received i p).done.relay r j
      ≡ with_entries (paths_of (members_in (view (run sys) i p).before) r j) (arrival claims_in (expectation sys p (slot_number sys.setting.config.m (Claims r)) j (members_in (view (run sys) i p).before) 0) (deliveries sys p (slot_number sys.setting.config.m (Claims r)) j i))
  pub values : (j : ℕ) → ((run sys).received i p).values j
      ≡ arrival values_in (expectation sys p (slot_number sys.setting.config.m Data) j (members_in (view (run sys) i p).before) (length (view (run sys) i p).due)) (deliveries sys p (slot_number sys.setting.config.m Data) j i)
  pub row : (j : ℕ) → ((run sys).received i p).report.first j
      ≡ arrival row_in (expectation sys p (sys.setting.config.m + 3) j (members_in (view (run sys) i p).before) 0) (deliveries sys p (sys.setting.config.m + 3) j i)
  pub rows : (r j : ℕ) → 0 < r → r ≤ sys.setting.config.m → ((run sys).received i p).report.relay r j
      ≡ with_entries (paths_of (members_in (view (run sys) i p).before) r j) (arrival rows_in (expectation sys p (slot_number sys.setting.config.m (Rows r)) j (members_in (view (run sys) i p).before) 0) (deliveries sys p (slot_number sys.setting.config.m (Rows r)) j i))

abbrev pub DeliveryLaw : Type 0
DeliveryLaw = (sys : System) (p i : ℕ) → Delivers sys p i

-- and what each node says in a slot, with whose frame it sends, is what it says by its finished view
abbrev pub SayingLaw : Type 0
SayingLaw = (sys : System) (p j slot : ℕ) → slot < slot_count sys.setting.config.m
    → said_in sys p (goes_in sys p) slot j ≡ says sys.setting j (sys.inputs j p) (begins (run sys) j p) ((run sys).received j p) (view (run sys) j p) slot
