-- What one node heard of an item, path by path.
use Rattle.std.specs.Prelude.{ℕ, zero, suc, ◌+◌, Bool, List, [], ◌∷◌, ◌++◌, map, if◌then◌else◌}
use Rattle.node_grid.specs.NodeSet.{without_id}
use Rattle.omh_paths.specs.declared.wrapped.Wrapped.{Wrapped}
use Rattle.omh_paths.specs.declared.wrapped.Wrapped.TheVariants.{Fault}
use Rattle.omh_paths.specs.Paths.{same_nodes, paths_of_length}
use Rattle.omh.specs.Omh.{Ear}

-- what was heard for one path
pub record Entry (V : Type 0) : Type 0 where
  pub path : List ℕ
  pub value : Wrapped V

-- what one node knows of an item: who it is, whose relays it hears, its own item, and what it heard for each path
pub record Hearing (V : Type 0) : Type 0 where
  pub nodes : ℕ  -- the members and the node itself are below this
  pub rounds : ℕ  -- the relay rounds, m
  pub members : List ℕ
  pub me : ℕ
  pub full : Bool
  pub own : Wrapped V
  pub heard : List (Entry V)

-- what was heard for a path, which is Fault 0 where nothing was
abbrev pub heard_in : {V : Type 0} → List (Entry V) → List ℕ → Wrapped V
heard_in [] path = Fault 0
heard_in (e ∷ es) path = if same_nodes e.path path then e.value else heard_in es path

-- the node of the agreement rule
abbrev pub ear_of : {V : Type 0} → Hearing V → Ear V
ear_of h = record { rounds = h.rounds; members = h.members; me = h.me; full = h.full; heard = heard_in h.heard }

-- the paths of 1 to n of the nodes, shorter ones first
abbrev pub paths_up_to : List ℕ → ℕ → List (List ℕ)
paths_up_to nodes zero = []
paths_up_to nodes (suc n) = paths_up_to nodes n ++ paths_of_length nodes (suc n)

-- the paths for which a node hears something: those of the other members
abbrev pub heard_paths : List ℕ → ℕ → ℕ → List (List ℕ)
heard_paths members me rounds = paths_up_to (without_id members me) (rounds + 1)

abbrev pub entry : {V : Type 0} → (List ℕ → Wrapped V) → List ℕ → Entry V
entry f path = record { path = path; value = f path }

-- nothing was heard for any path
abbrev pub nothing_heard : {V : Type 0} → List ℕ → ℕ → ℕ → List (Entry V)
nothing_heard members me rounds = map (entry (λ path. Fault 0)) (heard_paths members me rounds)

-- the entry after a value was heard for a path
abbrev pub with_heard : {V : Type 0} → List ℕ → Wrapped V → Entry V → Entry V
with_heard path value e = if same_nodes e.path path then record { path = e.path; value = value } else e

-- the same node once it has forgotten what it heard
abbrev pub forgotten : {V : Type 0} → Hearing V → Hearing V
forgotten h = record h { heard = nothing_heard h.members h.me h.rounds }
