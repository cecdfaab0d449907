-- Charging: what the settled rows of accusations together say of a node.
use Rattle.std.specs.Prelude.{ℕ, ◌*◌, Bool, true, false, not, ◌&&◌, ◌==◌, nat_lt, List, Option, None, Some, slice_index}
use Rattle.std.specs.Int.{bit_at}
use Rattle.node_grid.specs.NodeSet.{ids_where, mask_of}
use Rattle.node_grid.specs.Matrix.{row_at}
use Rattle.node_grid.specs.Count.{count}

-- how many kinds a mask has room for
abbrev pub kind_room : ℕ
kind_room = 16

-- whether a row accuses node j of kind k
abbrev pub accuses : List ℕ → ℕ → ℕ → Bool
accuses row j k = bit_at (slice_index row j) k == 1

abbrev pub is_row : Option (List ℕ) → Bool
is_row None = false
is_row (Some row) = true

abbrev pub row_accuses : Option (List ℕ) → ℕ → ℕ → Bool
row_accuses None j k = false
row_accuses (Some row) j k = accuses row j k

-- whether node q has a row
abbrev pub is_sender : List (Option (List ℕ)) → ℕ → Bool
is_sender rows q = is_row (row_at rows q)

-- whether the row of node q counts on node j: it is there, and isn't j's own
abbrev pub is_voter : List (Option (List ℕ)) → ℕ → ℕ → Bool
is_voter rows j q = not (q == j) && is_sender rows q

abbrev pub is_accuser : List (Option (List ℕ)) → ℕ → ℕ → ℕ → Bool
is_accuser rows j k q = not (q == j) && row_accuses (row_at rows q) j k

-- more than half of the rows of the other members give node j the kind k
unfoldable pub charged : List (Option (List ℕ)) → List ℕ → ℕ → ℕ → Bool
charged rows members j k = nat_lt (count (is_voter rows j) members) (2 * count (is_accuser rows j k) members)

-- the mask of the kinds that node j is charged with
abbrev pub charged_mask : List (Option (List ℕ)) → List ℕ → ℕ → ℕ
charged_mask rows members j = mask_of (ids_where (charged rows members j) kind_room)
