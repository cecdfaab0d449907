-- The members outside each path of none to m members, laid flat.
use Rattle.std.specs.Prelude.{ℕ, zero, suc, ◌≡◌, ◌≤◌, ◌<◌, ◌+◌, ◌-◌, List, [], length, take, drop, slice_index_or}
use Rattle.std.specs.List.{flat_map}
use Rattle.omh_paths.specs.Paths.{outside, paths_of_length, path_count, path_at}
use Rattle.path_order.specs.Order.{each_left_out}

-- where the sets of the paths of r out of so many members begin, behind those of shorter ones
abbrev pub free_begins : ℕ → ℕ → ℕ
free_begins members zero = 0
free_begins members (suc r) = free_begins members r + path_count members r

-- the members outside each path of up to m members stand at the path's place
abbrev pub AreFree : List ℕ → ℕ → List (List ℕ) → Type 0
AreFree members m sets =
    (r k : ℕ) → r ≤ m → k < path_count (length members) r → slice_index_or sets (free_begins (length members) r + k) [] ≡ outside members (path_at (paths_of_length members r) k)

-- what is left of the sets from one place until another, each without each of its members
abbrev pub left_out_of : ℕ → ℕ → List (List ℕ) → List (List ℕ)
left_out_of from until sets = flat_map each_left_out (take (until - from) (drop from sets))
