-- How far all nodes are in a period: what is known of each after each kind of slots.
use Rattle.std.specs.Prelude.{◌≡◌, ◌<◌, ℕ, ◌&&◌, nat_lt, List, [], length, replicate, Option, None, Some, is_some, slice_index_or}
use Rattle.node_grid.specs.NodeSet.{has_id, ids_where}
use Rattle.omh_paths.specs.declared.wrapped.Wrapped.TheVariants.{Fault}
use Rattle.error_reports.specs.Notes.{Notes}
use Rattle.agreed_state.specs.Agreed.{AgreedView}
use Rattle.protocol.specs.View.{synced_by}
use Rattle.scenario.specs.Scenario.{ScenarioView}
use Rattle.shared_states.specs.declared.belief.Belief.{Belief}
use Rattle.shared_states.specs.Sharing.{state_at}
use Rattle.shown_period.specs.declared.made.Made.{Made}
use Rattle.shown_period.specs.Outcomes.{HasBeliefs, modes_through, members_through, sync_at, found_at}
use Rattle.grouped_nodes.specs.Grouping.{first_of}
use Rattle.grouped_nodes.specs.Shared.{AreShared, belief_of}
use Rattle.at_once.specs.declared.keeping.Keeping.{Keeping}
use Rattle.at_once.specs.Parts.{setting, goes, has, is_full, through, done_in, due_in, own_in, votes_in, notes_synced, notes_convicted, notes_voted, notes_late, found_in, rows_in}
use Rattle.at_once.specs.Kept.{AreShaped, AreUsed, of_node, GoThrough, AreNotedAs}

-- the nodes that have a state
abbrev pub awake_in : ℕ → List (Option AgreedView) → List ℕ
awake_in n states = ids_where (λ i. is_some (state_at states i)) n

-- a node that stays Cold believes nothing
pub record IsNothing {N : ℕ} (b : Belief N) : Type 0 where
  pub done : b.done ≡ replicate N (Fault 0)
  pub due : b.due.items ≡ []
  pub votes : b.votes ≡ replicate 8 None
  pub rows : b.rows ≡ replicate N None

-- the states with which all nodes go through period p, and whose states each heard well; these nodes are Full
pub record IsGoing {N : ℕ} (sc : ScenarioView N) (p : ℕ) (full : List ℕ) (made : Made N) : Type 0 where
  pub used : AreUsed sc.config made.states
  pub states : GoThrough sc p made.states
  pub full_are : (i : ℕ) → has_id full i ≡ (nat_lt i sc.config.nodes && is_full sc p i)
  pub modes : made.modes ≡ modes_through N full made.states
  pub members : made.members ≡ members_through N made.states
  pub sync : (i : ℕ) → i < sc.config.nodes → sync_at made i ≡ synced_by (setting sc p 0) i (has sc p i)
  pub many : length made.beliefs.items ≡ N
  pub nothing : (i : ℕ) (d : Belief N) → i < sc.config.nodes → through sc p i ≡ None → IsNothing (slice_index_or made.beliefs.items i d)
  pub no_row : (i : ℕ) → i < sc.config.nodes → through sc p i ≡ None → found_at made i ≡ replicate N 0

-- the nodes in use that have no state are left alone, with nothing believed; all else of what was made stays
pub record AreLeft {N : ℕ} (nodes : ℕ) (old new : Made N) : Type 0 where
  pub beliefs : HasBeliefs new
  pub states : new.states ≡ old.states
  pub modes : new.modes ≡ old.modes
  pub members : new.members ≡ old.members
  pub sync : new.sync ≡ old.sync
  pub nothing : (i : ℕ) (d : Belief N) → i < nodes → state_at old.states i ≡ None → IsNothing (slice_index_or new.beliefs.items i d)
  pub no_row : (i : ℕ) → i < nodes → state_at old.states i ≡ None → found_at new i ≡ replicate N 0

-- what each keeps stands as it went into the period with it
pub record IsUnvoted {N : ℕ} (sc : ScenarioView N) (p : ℕ) (k : Keeping N) : Type 0 where
  pub votes : (i : ℕ) → i < sc.config.nodes → of_node k.votes i ≡ (goes sc p i).votes
  pub owns : (i : ℕ) → i < sc.config.nodes → of_node k.owns i ≡ (goes sc p i).owns

-- after the sync slot
pub record AreSynced {N : ℕ} (sc : ScenarioView N) (p : ℕ) (full : List ℕ) (made : Made N) (notes : List Notes) : Type 0 where
  pub going : IsGoing sc p full made
  pub shaped : AreShaped {N = N} sc.config notes
  pub notes_are : AreNotedAs sc p (notes_synced sc p) notes

-- groups of nodes with one state, which settled the claims alike: what is settled and what is due stands at their firsts
pub record AreClaimed {N : ℕ} (sc : ScenarioView N) (p : ℕ) (made : Made N) (groups : List ℕ) : Type 0 where
  pub shared : AreShared N groups made.states
  pub cold : (i : ℕ) → i < sc.config.nodes → through sc p i ≡ None → first_of groups i ≡ i
  pub done : (i : ℕ) (a : AgreedView) (d : Belief N) → i < sc.config.nodes → through sc p i ≡ Some a → (belief_of d made.beliefs.items groups i).done ≡ done_in sc p i a
  pub due : (i : ℕ) (a : AgreedView) (d : Belief N) → i < sc.config.nodes → through sc p i ≡ Some a → (belief_of d made.beliefs.items groups i).due.items ≡ due_in sc p i a

-- after the slots of claims
pub record AreSettled {N : ℕ} (sc : ScenarioView N) (p : ℕ) (full : List ℕ) (made : Made N) (notes : List Notes) (groups : List ℕ) : Type 0 where
  pub going : IsGoing sc p full made
  pub shaped : AreShaped {N = N} sc.config notes
  pub claimed : AreClaimed sc p made groups
  pub notes_are : AreNotedAs sc p (notes_convicted sc p) notes

-- after the data slot
pub record AreVoted {N : ℕ} (sc : ScenarioView N) (p : ℕ) (k : Keeping N) : Type 0 where
  pub shaped : AreShaped {N = N} sc.config k.notes
  pub notes : AreNotedAs sc p (notes_voted sc p) k.notes
  pub votes : (i : ℕ) (a : AgreedView) → i < sc.config.nodes → through sc p i ≡ Some a → of_node k.votes i ≡ votes_in sc p i a
  pub owns : (i : ℕ) (a : AgreedView) → i < sc.config.nodes → through sc p i ≡ Some a → of_node k.owns i ≡ own_in sc p i a

-- each node's own row
abbrev pub AreFound : {N : ℕ} → ScenarioView N → ℕ → Made N → Type 0
AreFound sc p made = (i : ℕ) (a : AgreedView) → i < sc.config.nodes → through sc p i ≡ Some a → found_at made i ≡ found_in sc p i a

-- before the slots of rows: the groups of the claims, what each voted, and its own row
pub record AreReporting {N : ℕ} (sc : ScenarioView N) (p : ℕ) (full : List ℕ) (made : Made N) (k : Keeping N) (groups : List ℕ) : Type 0 where
  pub going : IsGoing sc p full made
  pub claimed : AreClaimed sc p made groups
  pub voted : AreVoted sc p k
  pub found : AreFound sc p made

-- after the slots of rows: groups of nodes that besides vote and settle the rows alike
pub record AreReported {N : ℕ} (sc : ScenarioView N) (p : ℕ) (full : List ℕ) (made : Made N) (k : Keeping N) (groups : List ℕ) : Type 0 where
  pub going : IsGoing sc p full made
  pub found : AreFound sc p made
  pub claimed : AreClaimed sc p made groups
  pub voted : (i : ℕ) (a : AgreedView) (d : Belief N) → i < sc.config.nodes → through sc p i ≡ Some a → (belief_of d made.beliefs.items groups i).votes ≡ votes_in sc p i a
  pub rows : (i : ℕ) (a : AgreedView) (d : Belief N) → i < sc.config.nodes → through sc p i ≡ Some a → (belief_of d made.beliefs.items groups i).rows ≡ rows_in sc p i a
  pub shaped : AreShaped {N = N} sc.config k.notes
  pub notes : AreNotedAs sc p (notes_late sc p) k.notes
  pub votes : (i : ℕ) (a : AgreedView) → i < sc.config.nodes → through sc p i ≡ Some a → of_node k.votes i ≡ votes_in sc p i a
  pub owns : (i : ℕ) (a : AgreedView) → i < sc.config.nodes → through sc p i ≡ Some a → of_node k.owns i ≡ own_in sc p i a
