-- What a relay frame says of the paths that end in its sender.
use Rattle.std.specs.Prelude.{ℕ, ◌≡◌, ◌+◌, ◌-◌, ◌≤◌, ◌==◌, ◌&&◌, List, length, take, slice_index_or, if◌then◌else◌}
use Rattle.node_grid.specs.NodeSet.{without_id}
use Rattle.omh_paths.specs.declared.wrapped.Wrapped.{Wrapped}
use Rattle.omh_paths.specs.declared.wrapped.Wrapped.TheVariants.{Plain, Fault}
use Rattle.omh_paths.specs.Paths.{paths_of_length, place_in}
use Rattle.omh.specs.Heard.{Entry}

-- a plain value, or an error that was wrapped at most so many times
abbrev pub IsSmall : {V : Type 0} → ℕ → Wrapped V → Type 0
IsSmall most (Plain v) = Unit {0}
IsSmall most (Fault k) = k ≤ most

abbrev pub last_node : List ℕ → ℕ
last_node path = slice_index_or path (length path - 1) 0

-- the entry after node q's frame of r relays came, which says this for each path that ends in q
abbrev pub with_frame : {V : Type 0} → ℕ → ℕ → (List ℕ → Wrapped V) → Entry V → Entry V
with_frame r q says e = if (length e.path == r + 1) && (last_node e.path == q) then record { path = e.path; value = says e.path } else e

-- what a frame of these values says, in the order of the paths without its sender
abbrev pub as_written : {V : Type 0} → List ℕ → ℕ → ℕ → List (Wrapped V) → List ℕ → Wrapped V
as_written members q r values path = slice_index_or values (place_in (paths_of_length (without_id members q) r) (take r path)) (Fault 0)
