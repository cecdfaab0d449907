-- Going through all paths of a length in order.
use Rattle.std.specs.Prelude.{ℕ, suc, ◌≡◌, ◌<◌, false, not, List, [], ◌∷◌, ◌++◌, map, take, length}
use Rattle.std.specs.List.{flat_map}
use Rattle.node_grid.specs.NodeSet.{has_id, without_id, IsIdSet}
use Rattle.node_grid.specs.Count.{count}
use Rattle.omh_paths.specs.Paths.{outside, paths_of_length, path_count, path_at, place_in}

-- the path with each of the members outside it behind it
abbrev pub pushed : List ℕ → List ℕ → List (List ℕ)
pushed members path = map (λ q. path ++ q ∷ []) (outside members path)

-- Law: the paths one node longer are those that grow from each path by one member, in the same order
abbrev pub LongerPathsLaw : Type 0
LongerPathsLaw = (members : List ℕ) (r : ℕ) → paths_of_length members (suc r) ≡ flat_map (pushed members) (paths_of_length members r)

-- the members outside each path of r members, path by path
abbrev pub free_members : List ℕ → ℕ → List (List ℕ)
free_members members r = map (outside members) (paths_of_length members r)

-- what is left of a set without each of its members
abbrev pub each_left_out : List ℕ → List (List ℕ)
each_left_out set = map (without_id set) set

-- Law: the members outside the paths one node longer follow from those outside the paths
abbrev pub FreeMembersLaw : Type 0
FreeMembersLaw = (members : List ℕ) (r : ℕ) → free_members members (suc r) ≡ flat_map each_left_out (free_members members r)

-- how many of the first k paths a node isn't on
abbrev pub passed : List (List ℕ) → ℕ → ℕ → ℕ
passed paths q k = count (λ path. not (has_id path q)) (take k paths)

-- the k-th path of r members stands at this place among those without q, where q isn't on it
pub record IsNext (members : List ℕ) (r q k : ℕ) : Type 0 where
  pub path : path_at (paths_of_length (without_id members q) r) (passed (paths_of_length members r) q k) ≡ path_at (paths_of_length members r) k
  pub place : place_in (paths_of_length (without_id members q) r) (path_at (paths_of_length members r) k) ≡ passed (paths_of_length members r) q k
  pub within : passed (paths_of_length members r) q k < length (paths_of_length (without_id members q) r)

-- Law: a member's frame has the entry for the next path that the member isn't on behind the entries for those before it
abbrev pub CursorsLaw : Type 0
CursorsLaw =
    (n : ℕ) (members : List ℕ) → IsIdSet n members → (r q k : ℕ) → k < path_count (length members) r
    → has_id (path_at (paths_of_length members r) k) q ≡ false → IsNext members r q k
