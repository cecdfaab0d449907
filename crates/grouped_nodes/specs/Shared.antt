-- What the nodes of a group share: the state with which they go through a period, and what they believe of it.
use Rattle.std.specs.Prelude.{◌≡◌, ◌<◌, ◌≤◌, ℕ, List, [], length, Option, Some, slice_index_or}
use Rattle.error_reports.specs.Notes.{Notes}
use Rattle.agreed_state.specs.declared.config.Config.{Config}
use Rattle.agreed_state.specs.Agreed.{AgreedView}
use Rattle.shared_states.specs.declared.belief.Belief.{Belief}
use Rattle.shared_states.specs.Sharing.{state_at, AreAgreed}
use Rattle.view_law.specs.Laws.{IsWithin}
use Rattle.grouped_nodes.specs.Grouping.{first_of}

-- each node has the state of the first of its group, or has none as that has none
abbrev pub AreShared : ℕ → List ℕ → List (Option AgreedView) → Type 0
AreShared n groups states = (i : ℕ) → i < n → state_at states (first_of groups i) ≡ state_at states i

-- what a node believes, which stands at the first of its group
abbrev pub belief_of : {N : ℕ} → Belief N → List (Belief N) → List ℕ → ℕ → Belief N
belief_of d beliefs groups i = slice_index_or beliefs (first_of groups i) d

-- the notes of a node
abbrev pub no_notes : Notes
no_notes = record { nodes = 0; me = 0; kinds = 0; row = []; carried = [] }

abbrev pub notes_at : List Notes → ℕ → Notes
notes_at notes i = slice_index_or notes i no_notes

-- nodes go through a period in these groups, by what stands at the first of each
pub record AreGrouped {N : ℕ} (config : Config N) (groups : List ℕ) (states : List (Option AgreedView)) (beliefs : List (Belief N)) : Type 0 where
  pub agreed : AreAgreed config states
  pub shared : AreShared N groups states
  pub many : length beliefs ≡ N

-- of n nodes those that have a state note what there is to be noted
pub record CanNote (n : ℕ) (states : List (Option AgreedView)) (notes : List Notes) : Type 0 where
  pub many : length notes ≡ n
  pub kinds : (i : ℕ) (a : AgreedView) → i < n → state_at states i ≡ Some a → (notes_at notes i).kinds ≤ 16
  pub within : (i : ℕ) (a : AgreedView) → i < n → state_at states i ≡ Some a → IsWithin n (notes_at notes i)
