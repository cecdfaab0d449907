-- Paths of distinct nodes, and all paths of a length in lexicographic order.
use Rattle.std.specs.Prelude.{ℕ, zero, suc, ◌≡◌, ◌+◌, ◌-◌, ◌*◌, ◌≤◌, ◌<◌, Bool, true, false, not, ◌&&◌, ◌||◌, ◌==◌, nat_lt, List, [], ◌∷◌, map, filter, length, slice_index_or, if◌then◌else◌}
use Rattle.std.specs.List.{flat_map}
use Rattle.node_grid.specs.NodeSet.{has_id, IsIdSet}
use Rattle.node_grid.specs.Count.{Distinct}

-- whether two paths have the same nodes in the same order
abbrev pub same_nodes : List ℕ → List ℕ → Bool
same_nodes [] [] = true
same_nodes (x ∷ xs) (y ∷ ys) = x == y && same_nodes xs ys
same_nodes _ _ = false

-- the members that are not on the path
abbrev pub outside : List ℕ → List ℕ → List ℕ
outside members path = filter (λ q. not (has_id path q)) members

-- a path of relaying: distinct members, at most rounds + 1 of them
pub record IsPath (members : List ℕ) (rounds : ℕ) (path : List ℕ) : Type 0 where
  pub distinct : Distinct path
  pub within : (q : ℕ) → has_id path q ≡ true → has_id members q ≡ true
  pub short : length path ≤ rounds + 1

-- the paths of r members that avoid some nodes, in lexicographic order:
-- each member in turn, and after it each path of one node less that avoids it too
abbrev pub paths_avoiding : List ℕ → List ℕ → ℕ → List (List ℕ)
paths_avoiding members avoid zero = [] ∷ []
paths_avoiding members avoid (suc r) = flat_map (λ q. map (λ path. q ∷ path) (paths_avoiding members (q ∷ avoid) r)) (outside members avoid)

-- all paths of r members, in lexicographic order
abbrev pub paths_of_length : List ℕ → ℕ → List (List ℕ)
paths_of_length members r = paths_avoiding members [] r

-- how many paths of r nodes there are out of k: k * (k - 1) * ..
abbrev pub path_count : ℕ → ℕ → ℕ
path_count k zero = 1
path_count k (suc r) = k * path_count (k - 1) r

-- the place of a path in a list of paths
abbrev pub place_in : List (List ℕ) → List ℕ → ℕ
place_in [] path = 0
place_in (p ∷ ps) path = if same_nodes p path then 0 else 1 + place_in ps path

-- the path at a place of a list of paths
abbrev pub path_at : List (List ℕ) → ℕ → List ℕ
path_at ps k = slice_index_or ps k []

-- the place of a number in a list, which is the list's length where it isn't there
abbrev pub index_in : List ℕ → ℕ → ℕ
index_in [] q = 0
index_in (x ∷ xs) q = if x == q then 0 else 1 + index_in xs q

-- a path of r members
pub record IsListed (s : List ℕ) (r : ℕ) (path : List ℕ) : Type 0 where
  pub distinct : Distinct path
  pub within : (q : ℕ) → has_id path q ≡ true → has_id s q ≡ true
  pub long : length path ≡ r

-- the order of words: the first node in which two paths differ decides
abbrev pub comes_before : List ℕ → List ℕ → Bool
comes_before (x ∷ xs) (y ∷ ys) = nat_lt x y || (x == y && comes_before xs ys)
comes_before _ _ = false

-- Law: the list of all paths of r members has each such path once and nothing else, in lexicographic order
pub record AreAllPaths (s : List ℕ) (r : ℕ) : Type 0 where
  pub counted : length (paths_of_length s r) ≡ path_count (length s) r
  pub real : (k : ℕ) → k < path_count (length s) r → IsListed s r (path_at (paths_of_length s r) k)
  pub complete : (path : List ℕ) → IsListed s r path → (k : ℕ) × (k < path_count (length s) r) × (path_at (paths_of_length s r) k ≡ path)
  pub ordered : (j k : ℕ) → j < k → k < path_count (length s) r → comes_before (path_at (paths_of_length s r) j) (path_at (paths_of_length s r) k) ≡ true

abbrev pub PathsLaw : Type 0
PathsLaw = (n : ℕ) (s : List ℕ) → IsIdSet n s → (r : ℕ) → AreAllPaths s r

-- Law: the place of a path and the path at a place undo each other
pub record AreInverse (s : List ℕ) : Type 0 where
  pub path : (path : List ℕ) → IsListed s (length path) path → path_at (paths_of_length s (length path)) (place_in (paths_of_length s (length path)) path) ≡ path
  pub place : (r k : ℕ) → k < path_count (length s) r → place_in (paths_of_length s r) (path_at (paths_of_length s r) k) ≡ k

abbrev pub RanksLaw : Type 0
RanksLaw = (n : ℕ) (s : List ℕ) → IsIdSet n s → AreInverse s
