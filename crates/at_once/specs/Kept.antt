-- What nodes keep between periods, and go into a period with.
use Rattle.std.specs.Prelude.{◌≡◌, ◌≢◌, ◌<◌, ℕ, zero, suc, ℤ, Bool, true, List, [], length, map, replicate, Option, None, Some, is_some, if◌then◌else◌, slice_index_or}
use Rattle.node_grid.specs.Version.{kind_count}
use Rattle.node_grid.specs.NodeSet.{ids_below}
use Rattle.fault_classes.specs.Plan.{restarts_at}
use Rattle.error_reports.specs.Notes.{Notes}
use Rattle.agreed_state.specs.declared.config.Config.{Config}
use Rattle.agreed_state.specs.Agreed.{AgreedView}
use Rattle.protocol.specs.View.{Kept, first_kept}
use Rattle.protocol.specs.Cluster.{view}
use Rattle.protocol.specs.Run.{run}
use Rattle.scenario.specs.Scenario.{ScenarioView, system_of}
use Rattle.shared_states.specs.Sharing.{state_at, AreAgreed}
use Rattle.view_law.specs.Made.{notes_begun}
use Rattle.at_once.specs.declared.keeping.Keeping.{Keeping}
use Rattle.at_once.specs.Parts.{goes, through}

-- the notes of a node
abbrev pub notes_at : List Notes → ℕ → Notes
notes_at notes i = slice_index_or notes i (record { nodes = 0; me = 0; kinds = 0; row = []; carried = [] })

-- what node i keeps before period p: of the period before it, or, before the first one, what all begin with
abbrev pub kept_before : {N : ℕ} → ScenarioView N → ℕ → ℕ → Kept
kept_before sc zero i = first_kept (system_of sc).setting
kept_before sc (suc p) i = (view (run (system_of sc)) i p).kept

-- notes of each node in use, whatever they note
pub record AreShaped {N : ℕ} (config : Config N) (notes : List Notes) : Type 0 where
  pub many : length notes ≡ N
  pub nodes : (i : ℕ) → i < config.nodes → (notes_at notes i).nodes ≡ config.nodes
  pub me : (i : ℕ) → i < config.nodes → (notes_at notes i).me ≡ i
  pub kinds : (i : ℕ) → i < config.nodes → (notes_at notes i).kinds ≡ kind_count config.version

-- states of the configuration, of nodes in use alone
pub record AreUsed {N : ℕ} (config : Config N) (states : List (Option AgreedView)) : Type 0 where
  pub agreed : AreAgreed config states
  pub used : (i : ℕ) → is_some (state_at states i) ≡ true → i < config.nodes

-- last votes, or own values, of node i, by channel
abbrev pub of_node : List (List (Option ℤ)) → ℕ → List (Option ℤ)
of_node values i = slice_index_or values i []

-- what the nodes in use keep before period p
pub record AreKept {N : ℕ} (sc : ScenarioView N) (p : ℕ) (states : List (Option AgreedView)) (k : Keeping N) : Type 0 where
  pub used : AreUsed sc.config states
  pub shaped : AreShaped sc.config k.notes
  pub states_are : (i : ℕ) → i < sc.config.nodes → state_at states i ≡ (kept_before sc p i).state
  pub carried : (i : ℕ) → i < sc.config.nodes → (notes_at k.notes i).carried ≡ (kept_before sc p i).carried
  pub votes : (i : ℕ) → i < sc.config.nodes → of_node k.votes i ≡ (kept_before sc p i).votes
  pub owns : (i : ℕ) → i < sc.config.nodes → of_node k.owns i ≡ (kept_before sc p i).owns

-- the notes of a node that forgot all
abbrev pub no_longer : ℕ → Notes → Notes
no_longer n x = record x { row = replicate n 0; carried = replicate n 0 }

-- the notes of a node as a period begins, which forgets them where it restarts
abbrev pub notes_opened : ℕ → Bool → Notes → Notes
notes_opened n restarts x = if restarts then no_longer n x else record x { row = x.carried; carried = replicate n 0 }

-- what a node has kept, or nothing where it restarts
abbrev pub or_nothing : {X : Type 0} → Bool → X → X → X
or_nothing restarts nothing x = if restarts then nothing else x

-- node i has begun period p, and the others stay
pub record IsBegunAt {N : ℕ} (sc : ScenarioView N) (p i : ℕ) (states : List (Option AgreedView)) (k : Keeping N) (begun : List (Option AgreedView)) (l : Keeping N) : Type 0 where
  pub many : length l.notes ≡ N
  pub state : state_at begun i ≡ or_nothing (restarts_at sc.plan i p) None (state_at states i)
  pub notes : notes_at l.notes i ≡ notes_opened N (restarts_at sc.plan i p) (notes_at k.notes i)
  pub votes : of_node l.votes i ≡ or_nothing (restarts_at sc.plan i p) (replicate 8 None) (of_node k.votes i)
  pub owns : of_node l.owns i ≡ or_nothing (restarts_at sc.plan i p) (replicate 8 None) (of_node k.owns i)
  pub other_state : (j : ℕ) → j ≢ i → state_at begun j ≡ state_at states j
  pub other_notes : (j : ℕ) → j ≢ i → notes_at l.notes j ≡ notes_at k.notes j
  pub other_votes : (j : ℕ) → j ≢ i → of_node l.votes j ≡ of_node k.votes j
  pub other_owns : (j : ℕ) → j ≢ i → of_node l.owns j ≡ of_node k.owns j

-- what they go into period p with
pub record AreBegun {N : ℕ} (sc : ScenarioView N) (p : ℕ) (states : List (Option AgreedView)) (k : Keeping N) : Type 0 where
  pub used : AreUsed sc.config states
  pub shaped : AreShaped sc.config k.notes
  pub states_are : (i : ℕ) → i < sc.config.nodes → state_at states i ≡ (goes sc p i).state
  pub notes : (i : ℕ) → i < sc.config.nodes → notes_at k.notes i ≡ notes_begun sc.config i (goes sc p i)
  pub votes : (i : ℕ) → i < sc.config.nodes → of_node k.votes i ≡ (goes sc p i).votes
  pub owns : (i : ℕ) → i < sc.config.nodes → of_node k.owns i ≡ (goes sc p i).owns

-- what was never kept
pub record IsBlank {N : ℕ} (config : Config N) (k : Keeping N) : Type 0 where
  pub notes : k.notes ≡ map (λ i. record { nodes = config.nodes; me = i; kinds = kind_count config.version; row = replicate N 0; carried = replicate N 0 }) (ids_below N)
  pub votes : k.votes ≡ replicate N (replicate 8 None)
  pub owns : k.owns ≡ replicate N (replicate 8 None)

-- ---- in the period

-- with which states they go through it
abbrev pub GoThrough : {N : ℕ} → ScenarioView N → ℕ → List (Option AgreedView) → Type 0
GoThrough sc p states = (i : ℕ) → i < sc.config.nodes → state_at states i ≡ through sc p i

-- the notes of each node that goes through it with a state are these
abbrev pub AreNotedAs : {N : ℕ} → ScenarioView N → ℕ → (ℕ → AgreedView → Notes) → List Notes → Type 0
AreNotedAs sc p made notes = (i : ℕ) (a : AgreedView) → i < sc.config.nodes → through sc p i ≡ Some a → notes_at notes i ≡ made i a
