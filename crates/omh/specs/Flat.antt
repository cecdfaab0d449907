-- What was heard, laid flat: the paths of one length after the shorter ones, each at its place in lexicographic order.
use Rattle.std.specs.Prelude.{ℕ, zero, suc, ◌≡◌, ◌≢◌, ◌+◌, ◌-◌, ◌*◌, ◌≤◌, ◌<◌, Bool, false, List, map, length, slice_index_or, slice_set, take, drop, All, if◌then◌else◌}
use Rattle.node_grid.specs.Capacity.{IsCapacity}
use Rattle.node_grid.specs.NodeSet.{has_id, IsIdSet}
use Rattle.omh_paths.specs.declared.wrapped.Wrapped.{Wrapped}
use Rattle.omh_paths.specs.declared.wrapped.Wrapped.TheVariants.{Fault}
use Rattle.omh_paths.specs.Wrapped.{unwrapped}
use Rattle.omh_paths.specs.Majority.{majority}
use Rattle.omh_paths.specs.Paths.{paths_of_length, path_count, place_in, path_at, index_in}
use Rattle.omh.specs.declared.station.Branch.{Branch}
use Rattle.omh.specs.Omh.{Ear, settled_at}
use Rattle.omh.specs.Heard.{Entry, entry, heard_paths}

-- how many paths of 1 to n nodes there are, so where those of n + 1 nodes begin
abbrev pub section_at : ℕ → ℕ → ℕ
section_at nodes zero = 0
section_at nodes (suc n) = section_at nodes n + path_count nodes (suc n)

-- the place of a path
abbrev pub flat_place : ℕ → List ℕ → List ℕ → ℕ
flat_place nodes members path = section_at nodes (length path - 1) + place_in (paths_of_length members (length path)) path

-- what stands there
abbrev pub flat_heard : {V : Type 0} → ℕ → List ℕ → List (Wrapped V) → List ℕ → Wrapped V
flat_heard nodes members flat path = slice_index_or flat (flat_place nodes members path) (Fault 0)

-- what was heard, by path
abbrev pub heard_flat : {V : Type 0} → ℕ → ℕ → List ℕ → ℕ → List (Wrapped V) → List (Entry V)
heard_flat nodes rounds members me flat = map (entry (flat_heard nodes members flat)) (heard_paths members me rounds)

-- the node of the agreement rule that heard this
abbrev pub flat_ear : {V : Type 0} → ℕ → ℕ → List ℕ → ℕ → Bool → List (Wrapped V) → Ear V
flat_ear nodes rounds members me full flat = record { rounds = rounds; members = members; me = me; full = full; heard = flat_heard nodes members flat }

-- members out of so many nodes, and so many rounds
pub record IsStation (capacity nodes rounds : ℕ) (members : List ℕ) (count : ℕ) : Type 0 where
  pub capacity_ok : IsCapacity capacity
  pub nodes_ok : nodes ≤ capacity
  pub rounds_ok : rounds ≤ 3
  pub members_ok : IsIdSet capacity members
  pub count_ok : count ≡ length members
  pub few_ok : count ≤ nodes

-- room for the values of all paths, and for those of the paths of one commander; no value is the error wrapped 255 times
pub record IsRoom {V : Type 0} (nodes rounds : ℕ) (flat work : List (Wrapped V)) : Type 0 where
  pub flat_ok : length flat ≡ section_at nodes (rounds + 1)
  pub work_ok : length work ≡ 1 + section_at (nodes - 1) rounds
  pub known : All (λ x. x ≢ Fault 255) flat

-- the k-th path of r relays behind the commander at a place among the members
abbrev pub relay_path : List ℕ → ℕ → ℕ → ℕ → List ℕ
relay_path members place r k = path_at (paths_of_length members (suc r)) (place * path_count (length members - 1) r + k)

-- the paths of r relays behind the commander at a place: where they stand, how many they are, and that there is room for them
pub record IsBranch (nodes rounds : ℕ) (members : List ℕ) (place r : ℕ) (b : Branch) : Type 0 where
  pub paths_are : b.paths ≡ path_count (length members - 1) r
  pub first_is : b.first ≡ place * path_count (length members - 1) r
  pub begins_is : b.begins ≡ section_at nodes r + b.first
  pub listed : b.first + b.paths ≤ path_count (length members) (r + 1)
  pub within : b.begins + b.paths ≤ section_at nodes (rounds + 1)
  pub room : b.paths ≤ 1 + section_at (nodes - 1) rounds
  pub few : b.paths ≤ 65536
  pub small : b.begins + b.paths ≤ 2097152

-- the place of a member, and relays that are fewer than the rounds: those of one more are heard too
pub record IsShorter (rounds : ℕ) (members : List ℕ) (place r : ℕ) : Type 0 where
  pub member : place < length members
  pub shorter : r < rounds

-- a list of so many values has a place k, and so many terms from k * width on
pub record HasTerms (k width values : ℕ) : Type 0 where
  pub within : k * width + width ≤ values
  pub place : k < values
  pub small : k * width + width ≤ 65536

-- where the node isn't on that path, what it settles for it stands at place k of the list
abbrev pub SettledAt : {V : Type 0} → (V → V → Bool) → Ear V → ℕ → ℕ → List (Wrapped V) → ℕ → Type 0
SettledAt eq x place r work k = has_id (relay_path x.members place r k) x.me ≡ false → slice_index_or work k (Fault 0) ≡ settled_at eq x (relay_path x.members place r k)

-- so it is for all paths of r relays
abbrev pub AreSettled : {V : Type 0} → (V → V → Bool) → Ear V → ℕ → ℕ → List (Wrapped V) → Type 0
AreSettled eq x place r work = (k : ℕ) → k < path_count (length x.members - 1) r → SettledAt eq x place r work k

-- a list of terms for nodes, which begins at a place, with a node's own term laid at its place
abbrev pub laid_own : {V : Type 0} → List ℕ → ℕ → ℕ → Wrapped V → List (Wrapped V) → List (Wrapped V)
laid_own nodes me from own work = if has_id nodes me then slice_set work (from + index_in nodes me) own else work

-- the list after the path at place k was settled from the terms that begin at k * width
abbrev pub path_settled : {V : Type 0} → (V → V → Bool) → List ℕ → ℕ → ℕ → ℕ → Wrapped V → List (Wrapped V) → List (Wrapped V)
path_settled eq nodes me k width own work =
    slice_set (laid_own nodes me (k * width) own work) k (unwrapped (majority eq (take width (drop (k * width) (laid_own nodes me (k * width) own work)))))

-- nothing is heard any more
abbrev pub forgotten : {V : Type 0} → List (Wrapped V) → List (Wrapped V)
forgotten values = map (λ x. Fault 0) values
