-- What a node settles of an item that all nodes hear as it is passed on, by how many members are Full.
use Rattle.std.specs.Prelude.{ℕ, ◌≡◌, ◌+◌, ◌≤◌, ◌<◌, ◌&&◌, ◌||◌, Bool, not, nat_lt, List, [], ◌∷◌, length, Option, None, if◌then◌else◌}
use Rattle.node_grid.specs.NodeSet.{has_id}
use Rattle.node_grid.specs.Count.{count}
use Rattle.omh_paths.specs.declared.wrapped.Wrapped.{Wrapped}
use Rattle.omh_paths.specs.declared.wrapped.Wrapped.TheVariants.{Fault}
use Rattle.omh_paths.specs.Paths.{outside}

-- no node hears anything in place of what is passed on, for no path of at most rounds + 1 nodes
abbrev pub IsUntouched : {V : Type 0} → ℕ → (ℕ → List ℕ → Option (Wrapped V)) → Type 0
IsUntouched rounds says = (j : ℕ) (path : List ℕ) → 0 < length path → length path ≤ rounds + 1 → says j path ≡ None

-- how many of the members that are not on the path are Full
abbrev pub full_outside : List ℕ → List ℕ → List ℕ → ℕ
full_outside members full path = count (λ q. has_id full q) (outside members path)

-- whether what the last node of a path passes on gets to node i, where the path can grow by r nodes: i is a Full member, or at least
-- r Full members are not on the path
abbrev pub gets_to : List ℕ → List ℕ → ℕ → ℕ → List ℕ → Bool
gets_to members full i r path = (has_id members i && has_id full i) || not (nat_lt (full_outside members full path) r)

-- what node i settles of the item of c, where this is what c says
abbrev pub counted : {V : Type 0} → ℕ → List ℕ → List ℕ → Wrapped V → ℕ → ℕ → Wrapped V
counted rounds members full own c i = if gets_to members full i rounds (c ∷ []) then own else Fault 0
