-- The data slot of a period, as the code has it: what is due at each node, and whose votes serve whom.
use Rattle.std.specs.Prelude.{◌≡◌, ◌≢◌, ◌<◌, ◌&&◌, ◌||◌, ◌==◌, ℕ, ℤ, Bool, true, List, [], length, Option}
use Rattle.node_grid.specs.Capacity.{IsCapacity}
use Rattle.node_grid.specs.NodeSet.{has_id}
use Rattle.node_grid.specs.Kinds.{deviate}
use Rattle.omh_paths.specs.declared.wrapped.Wrapped.{Wrapped}
use Rattle.error_reports.specs.Notes.{Notes, also_noted}
use Rattle.agreed_state.specs.Agreed.{AgreedView}
use Rattle.protocol.specs.Arrival.{is_bad}
use Rattle.protocol.specs.Configured.{setting_of}
use Rattle.protocol.specs.View.{Received, votes_on, deviates}
use Rattle.shared_states.specs.declared.belief.Belief.{Belief}
use Rattle.grouped_nodes.specs.Shared.{belief_of}
use Rattle.told_values.specs.Slot.{DataView, own_of, Hears, IsTold}

-- what stands where nothing is believed
abbrev pub no_belief : {N : ℕ} → Belief N
no_belief = record { done = []; due = record { items = [] }; votes = []; rows = [] }

-- the channels that are due at a node, and the claims that it settles, by what its group believes
abbrev pub due_at : {N : ℕ} → List ℕ × List (Belief N) → ℕ → List ℕ
due_at shared i = (belief_of no_belief shared.1 shared.0 i).due.items

abbrev pub done_at : {N : ℕ} → List ℕ → List (Belief N) → ℕ → List (Wrapped ℕ)
done_at groups beliefs i = (belief_of no_belief beliefs groups i).done

-- groups of N nodes, a place for what each believes, and nodes at which the same channels are due
pub record AreDues (N : ℕ) (groups : List ℕ) (beliefs : List (Belief N)) (alike : List ℕ) : Type 0 where
  pub capacity : IsCapacity N
  pub many : length beliefs ≡ N
  pub alike_are : (i j : ℕ) → has_id alike i ≡ true → has_id alike j ≡ true → due_at (groups, beliefs) i ≡ due_at (groups, beliefs) j

module _ {n : ℕ} (d : DataView n) where
  -- the same channels are due at node j, which has y, as at node i, which has x, and what i is told j is told too
  pub record HearsAs (i : ℕ) (x : Received) (j : ℕ) (y : Received) : Type 0 where
    pub due : d.due j ≡ d.due i
    pub told : (told : List (Option (List ℤ))) → IsTold d i x told → IsTold d j y told

  -- these are the votes of each node that hears as node i does, where it goes through the period with this state and settles these claims;
  -- and these are the nodes that are off
  pub record IsVoteOf (a : AgreedView) (done : List (Wrapped ℕ)) (i : ℕ) (x : Received) (votes : List (Option ℤ)) (off : List ℕ) : Type 0 where
    pub votes_are : (j : ℕ) (y : Received) → HearsAs i x j y → votes ≡ votes_on (setting_of d.config) j (has_id d.full j) a done (d.due j) (own_of d j) y
    pub off_are : (j : ℕ) (y : Received) → HearsAs i x j y → (q : ℕ) → q < d.config.nodes → q ≢ j → has_id off q ≡ deviates (setting_of d.config) (d.due j) votes y q

  -- each node has so of the others' values
  abbrev pub HearEach : (ℕ → Received) → Type 0
  HearEach x = (i : ℕ) → i < d.config.nodes → Hears d i (x i)

  -- notes of node i with what it finds of the values besides, and with those that are off
  abbrev pub IsNotedOf : ℕ → List ℕ → Notes → Notes → Type 0
  IsNotedOf i off old new =
      (x : Received) → Hears d i x → (far : ℕ → Bool) → ((q : ℕ) → q < d.config.nodes → q ≢ i → has_id off q ≡ far q)
      → new ≡ also_noted n old (λ q k. is_bad (x.values q) k || (far q && k == deviate))
