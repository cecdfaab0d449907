-- The outcome of each node, by the lists in which all nodes' parts of a period stand.
use Rattle.std.specs.Prelude.{◌≡◌, ◌<◌, ℕ, ℤ, Bool, true, false, List, [], length, map, replicate, Option, None, Some, slice_get, slice_index, slice_index_or}
use Rattle.node_grid.specs.Capacity.{IsCapacity}
use Rattle.node_grid.specs.NodeSet.{ids_below, has_id}
use Rattle.omh_paths.specs.declared.wrapped.Wrapped.{Wrapped}
use Rattle.omh_paths.specs.declared.wrapped.Wrapped.TheVariants.{Fault}
use Rattle.agreed_state.specs.Agreed.{AgreedView}
use Rattle.protocol.specs.Run.{members_in}
use Rattle.node_core.specs.declared.outcome.Mode.{Mode}
use Rattle.node_core.specs.declared.outcome.Mode.TheVariants.{Full, Joining, Cold}
use Rattle.node_core.specs.Modes.{mode_of}
use Rattle.node_steps.specs.Outcome.{Outcome}
use Rattle.shared_states.specs.declared.belief.Belief.{Belief}
use Rattle.shared_states.specs.Sharing.{state_at}
use Rattle.shown_period.specs.declared.made.Made.{Made}

abbrev pub mode_at : {N : ℕ} → Made N → ℕ → Mode
mode_at made i = slice_index_or made.modes i Cold

abbrev pub members_at : {N : ℕ} → Made N → ℕ → List ℕ
members_at made i = slice_index_or made.members i []

abbrev pub sync_at : {N : ℕ} → Made N → ℕ → List ℕ
sync_at made i = slice_index_or made.sync i []

abbrev pub found_at : {N : ℕ} → Made N → ℕ → List ℕ
found_at made i = slice_index_or made.found i []

-- what a node believes stands at its group's place
abbrev pub belief_at : {N : ℕ} → Made N → ℕ → Option (Belief N)
belief_at made i = slice_get made.beliefs.items (slice_index made.group i)

-- the settled claims, the settled rows, the due channels and the votes; where nothing stands they are those of a node that is Cold
abbrev pub done_in : {N : ℕ} → Option (Belief N) → List (Wrapped ℕ)
done_in {N} None = replicate N (Fault 0)
done_in (Some b) = b.done

abbrev pub rows_in : {N : ℕ} → Option (Belief N) → List (Option (List ℕ))
rows_in {N} None = replicate N None
rows_in (Some b) = b.rows

abbrev pub due_in : {N : ℕ} → Option (Belief N) → List ℕ
due_in None = []
due_in (Some b) = b.due.items

abbrev pub votes_in : {N : ℕ} → Option (Belief N) → List (Option ℤ)
votes_in None = replicate 8 None
votes_in (Some b) = b.votes

abbrev pub outcome_at : {N : ℕ} → Made N → ℕ → Outcome
outcome_at made i = record {
  mode = mode_of (mode_at made i);
  agreed = state_at made.states i;
  members = members_at made i;
  done = done_in (belief_at made i);
  rows = rows_in (belief_at made i);
  due = due_in (belief_at made i);
  votes = votes_in (belief_at made i);
  found = found_at made i;
  sync = sync_at made i;
}

-- of all nodes in use
abbrev pub outcomes : {N : ℕ} → Made N → ℕ → List Outcome
outcomes made nodes = map (outcome_at made) (ids_below nodes)

-- there is a place for what each node believes, and each group has its own
pub record HasBeliefs {N : ℕ} (made : Made N) : Type 0 where
  pub capacity : IsCapacity N
  pub many : length made.beliefs.items ≡ N
  pub placed : (i : ℕ) → i < N → slice_index made.group i < N

-- how a node goes through a period that was Full or not when it began, and has this state now
abbrev pub mode_with : Bool → Option AgreedView → Mode
mode_with full None = Cold
mode_with true (Some a) = Full
mode_with false (Some a) = Joining

-- by the nodes that were Full, and by the states that all nodes have now
abbrev pub modes_through : ℕ → List ℕ → List (Option AgreedView) → List Mode
modes_through capacity full states = map (λ i. mode_with (has_id full i) (state_at states i)) (ids_below capacity)

abbrev pub members_through : ℕ → List (Option AgreedView) → List (List ℕ)
members_through capacity states = map (λ i. members_in (state_at states i)) (ids_below capacity)
