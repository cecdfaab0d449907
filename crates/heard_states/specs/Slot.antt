-- The sync slot of a period: what all nodes have of it, which states they take, and what they note.
use Rattle.std.specs.Prelude.{◌≡◌, ℕ, ◌<◌, ◌≤◌, Bool, true, ◌&&◌, ◌||◌, ◌==◌, List, [], length, Option, Some, is_some, slice_index_or}
use Rattle.node_grid.specs.Kinds.{state}
use Rattle.node_grid.specs.Version.{kind_count}
use Rattle.node_grid.specs.Capacity.{IsCapacity}
use Rattle.frames.specs.Content.{Expectation}
use Rattle.fault_classes.specs.Line.{effect_at}
use Rattle.fault_classes.specs.Plan.{Plan}
use Rattle.error_reports.specs.Notes.{Notes, also_noted}
use Rattle.agreed_state.specs.declared.config.Config.{Config}
use Rattle.agreed_state.specs.Config.{IsConfig}
use Rattle.agreed_state.specs.Agreed.{AgreedView}
use Rattle.agreed_state.specs.Body.{body, state_len}
use Rattle.protocol.specs.Arrival.{Arrival, is_bad, body_said}
use Rattle.protocol.specs.Talk.{arrives}
use Rattle.protocol.specs.View.{other_body, goes_with, synced_by}
use Rattle.protocol.specs.Run.{System, state_content, goes_in, run}
use Rattle.protocol.specs.Accepted.{IsAccepted}
use Rattle.protocol.specs.Configured.{setting_of}
use Rattle.shared_states.specs.Sharing.{state_at, AreAgreed}
use Rattle.heard_states.specs.declared.slot.SyncSlot.{SyncSlot}

-- what is expected of the frame of node j in the sync slot of period p
abbrev pub expected_of : {n : ℕ} → Config n → ℕ → ℕ → Expectation
expected_of {n} config p j = record {
  version = config.version;
  capacity = n;
  nodes = config.nodes;
  m = config.m;
  period = p;
  slot = 0;
  sender = j;
  members = [];
  state_len = state_len config;
  tasks = length config.graph.tasks;
  due = 0;
}

-- what node i has of the frame of node j, which goes into the period with this state, or with none
abbrev pub told_state : {n : ℕ} → Config n → Plan → ℕ → ℕ → ℕ → Option AgreedView → Arrival (List ℕ)
told_state config plan p i j o = arrives body_said (effect_at plan.lines p 0 j i) (expected_of config p j) (expected_of config p j) (state_content (setting_of config) o)

-- the notes of a node, and none past the end
abbrev pub no_notes : Notes
no_notes = record { nodes = 0; me = 0; kinds = 0; row = []; carried = [] }

abbrev pub notes_at : List Notes → ℕ → Notes
notes_at notes i = slice_index_or notes i no_notes

-- what a node notes of the slot that goes through the period with state a and has this of the frames: errors, and who tells another state
abbrev pub noted_states : {n : ℕ} → Config n → AgreedView → (ℕ → Arrival (List ℕ)) → ℕ → ℕ → Bool
noted_states config a sync j k = is_bad (sync j) k || (other_body (body config a) (sync j) && k == state)

-- the slot of a period of the plan
pub record IsSyncSlot {n : ℕ} (slot : SyncSlot n) : Type 0 where
  pub capacity : IsCapacity n
  pub config : IsConfig n slot.config.now
  pub nodes : slot.plan.now.nodes ≡ slot.config.now.nodes
  pub period : slot.period < slot.plan.now.periods

-- nodes in use alone have states, and each notes for itself
pub record AreReady {n : ℕ} (slot : SyncSlot n) (states : List (Option AgreedView)) (notes : List Notes) : Type 0 where
  pub long : length states ≡ n
  pub agreed : AreAgreed slot.config.now states
  pub used : (i : ℕ) → is_some (state_at states i) ≡ true → i < slot.config.now.nodes
  pub room : slot.config.now.nodes ≤ length notes
  pub nodes_are : (i : ℕ) → i < slot.config.now.nodes → (notes_at notes i).nodes ≡ slot.config.now.nodes
  pub me_is : (i : ℕ) → i < slot.config.now.nodes → (notes_at notes i).me ≡ i
  pub kinds : (i : ℕ) → i < slot.config.now.nodes → (notes_at notes i).kinds ≡ kind_count slot.config.now.version

-- the slot is that of a run into whose period the nodes in use go with these states, and with rows of what they carried over
pub record IsSlotOf {n : ℕ} (slot : SyncSlot n) (states : List (Option AgreedView)) (notes : List Notes) (sys : System) : Type 0 where
  pub accepted : IsAccepted sys
  pub setting_is : sys.setting ≡ setting_of slot.config.now
  pub plan_is : sys.plan ≡ slot.plan.now
  pub states_are : (i : ℕ) → i < slot.config.now.nodes → state_at states i ≡ (goes_in sys slot.period i).state
  pub carried : (i : ℕ) → i < slot.config.now.nodes → (notes_at notes i).row ≡ (goes_in sys slot.period i).carried

-- what all nodes have of the slot of a run: whose frames were good, with which state they go through the period, and what those that do note
pub record AreHeard {n : ℕ} (slot : SyncSlot n) (sys : System) (notes : List Notes) (states : List (Option AgreedView)) (noted : List Notes) (heard : List (List ℕ)) : Type 0 where
  pub heard_are : (i : ℕ) → i < slot.config.now.nodes → slice_index_or heard i [] ≡ synced_by (setting_of slot.config.now) i ((run sys).received i slot.period)
  pub states_are : (i : ℕ) → i < slot.config.now.nodes
      → state_at states i ≡ goes_with (setting_of slot.config.now) i ((run sys).received i slot.period) (goes_in sys slot.period i).state
  pub notes_are : (i : ℕ) (a : AgreedView) → i < slot.config.now.nodes → state_at states i ≡ Some a
      → notes_at noted i ≡ also_noted n (notes_at notes i) (noted_states slot.config.now a ((run sys).received i slot.period).sync)
  pub kept : (i : ℕ) → i < slot.config.now.nodes → notes_at noted i ≡ record (notes_at notes i) { row = (notes_at noted i).row }
