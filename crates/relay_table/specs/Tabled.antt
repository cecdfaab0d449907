-- What a node heard of the relays of an item, flat over the other members, and what it makes of a round's frames.
use Rattle.std.specs.Prelude.{ℕ, zero, suc, ◌≡◌, ◌≢◌, ◌≤◌, ◌<◌, ◌+◌, ◌-◌, ◌==◌, nat_le, not, ◌&&◌, true, false, Bool, List, [], map, length, slice_index_or, Option, None, Some, if◌then◌else◌}
use Rattle.node_grid.specs.Capacity.{IsCapacity}
use Rattle.node_grid.specs.NodeSet.{has_id, without_id, ids_below, ids_where, IsIdSet}
use Rattle.omh_paths.specs.declared.wrapped.Wrapped.{Wrapped}
use Rattle.omh_paths.specs.declared.wrapped.Wrapped.TheVariants.{Plain, Fault}
use Rattle.equivocation.specs.Conviction.{convicts}
use Rattle.omh.specs.Omh.{settled_from}
use Rattle.omh.specs.Heard.{Entry, Hearing, entry, ear_of, heard_paths, nothing_heard}
use Rattle.omh.specs.Flat.{flat_heard}
use Rattle.omh.specs.Written.{last_node}
use Rattle.relay_walk.specs.Walking.{says}

-- how many nodes the longest paths have of which terms are kept: convictions look at pairs, and terms of a later last round
-- are settled as they are read
abbrev pub kept_nodes : ℕ → ℕ
kept_nodes zero = 1
kept_nodes (suc zero) = 2
kept_nodes (suc (suc m)) = suc (suc m)

-- what was heard of a path: what stands in its place where terms of so long paths are kept
abbrev pub kept_heard : {V : Type 0} → ℕ → List ℕ → List (Wrapped V) → List ℕ → Wrapped V
kept_heard most others flat path = if nat_le (length path) most then flat_heard (length others) others flat path else Fault 0

-- what was heard, by path: the terms of the other members' paths, those of one length after those of shorter ones
abbrev pub heard_among : {V : Type 0} → List ℕ → ℕ → ℕ → List (Wrapped V) → List (Entry V)
heard_among members me rounds flat = map (entry (kept_heard (kept_nodes rounds) (without_id members me) flat)) (heard_paths members me rounds)

-- who hears: members out of so many nodes, and so many rounds
pub record IsStation (capacity nodes rounds me : ℕ) (members others : List ℕ) : Type 0 where
  pub capacity_ok : IsCapacity capacity
  pub nodes_ok : nodes ≤ capacity
  pub rounds_ok : rounds ≤ 3
  pub members_ok : IsIdSet capacity members
  pub below : (q : ℕ) → has_id members q ≡ true → q < nodes
  pub me_ok : me < capacity
  pub others_ok : others ≡ without_id members me
  pub few : length others ≤ nodes - 1

-- no error of these was wrapped often
abbrev pub AreKnown : {V : Type 0} → List (Wrapped V) → Type 0
AreKnown terms = (k : ℕ) → slice_index_or terms k (Fault 0) ≢ Fault 254

-- a table before its first start, and after it: nothing was heard
abbrev pub unstarted : {V : Type 0} → ℕ → ℕ → Hearing V
unstarted nodes rounds = record { nodes = nodes; rounds = rounds; members = []; me = 0; full = false; own = Fault 0; heard = nothing_heard [] 0 rounds }

abbrev pub started : {V : Type 0} → Hearing V → List ℕ → ℕ → Bool → Wrapped V → Hearing V
started h members me full own = record { nodes = h.nodes; rounds = h.rounds; members = members; me = me; full = full; own = own; heard = nothing_heard members me h.rounds }

-- the members but for the node itself
abbrev pub others_in : {V : Type 0} → Hearing V → List ℕ
others_in h = without_id h.members h.me

-- an entry after the frames of a round of r relays came: each path of one node more is as the frame of its last node says
abbrev pub told_in : {V : Type 0} → (ℕ → Option (List (Wrapped V))) → List ℕ → ℕ → List ℕ → Wrapped V
told_in frames members r path = says members (last_node path) r (frames (last_node path)) path

-- what was heard after the frames of a round of r relays: each path of r + 1 nodes is as the frame of its last node says
abbrev pub after_frames : {V : Type 0} → (ℕ → Option (List (Wrapped V))) → ℕ → Hearing V → Hearing V
after_frames frames r h = record h { heard = map (λ e. if length e.path == r + 1 then record { path = e.path; value = told_in frames h.members r e.path } else e) h.heard }

-- what was heard after each of the others told its item, or none
abbrev pub term_of : {V : Type 0} → Option V → Wrapped V
term_of None = Fault 0
term_of (Some v) = Plain v

-- what is settled of each node's item
abbrev pub settled_in : {V : Type 0} → (V → V → Bool) → ℕ → Hearing V → List (Wrapped V)
settled_in eq capacity h = map (λ c. if has_id h.members c then settled_from eq (ear_of h) h.own c else Fault 0) (ids_below capacity)

-- the other members that are convicted by what was heard of their items
abbrev pub convicted_in : {V : Type 0} → (V → V → Bool) → ℕ → Hearing V → List ℕ
convicted_in eq capacity h = ids_where (λ c. not (c == h.me) && (has_id h.members c && convicts eq (ear_of h) c)) capacity
