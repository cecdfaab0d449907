-- Counts of all kinds of error for each node, as planes of bits.
use Rattle.std.specs.Prelude.{ℕ, ◌+◌, ◌*◌, ◌<◌, nat_lt, List, [], ◌∷◌, slice_index}
use Rattle.std.specs.Int.{bit_at}
use Rattle.node_grid.specs.NodeSet.{ids_where, mask_of}

-- the count of node j and kind k: the planes have its bits, the lowest first
abbrev pub count_at : List (List ℕ) → ℕ → ℕ → ℕ
count_at [] j k = 0
count_at (plane ∷ planes) j k = bit_at (slice_index plane j) k + 2 * count_at planes j k

-- for each of the n nodes and each kind
abbrev pub EachCount : ℕ → (ℕ → ℕ → Type 0) → Type 0
EachCount n P = (j k : ℕ) → j < n → k < 16 → P j k

-- the mask of the kinds of node j whose count is greater than the limit
unfoldable pub more_mask : List (List ℕ) → ℕ → ℕ → ℕ
more_mask planes j limit = mask_of (ids_where (λ k. nat_lt limit (count_at planes j k)) 16)
