-- The two versions of the cluster's formats, and what each has room for.
use Rattle.std.specs.Prelude.{◌≡◌, ℕ, ◌⊎◌, ◌==◌, if◌then◌else◌}

abbrev pub IsVersion : ℕ → Type 0
IsVersion v = (v ≡ 1) ⊎ (v ≡ 2)

-- how many kinds of error a row can hold
abbrev pub kind_count : ℕ → ℕ
kind_count v = if v == 1 then 8 else 16

-- each mask of a row is below this
abbrev pub mask_bound : ℕ → ℕ
mask_bound v = if v == 1 then 256 else 65536

-- the most nodes that a cluster has, and the most relay rounds
abbrev pub most_nodes : ℕ → ℕ
most_nodes v = if v == 1 then 8 else 16

abbrev pub most_rounds : ℕ → ℕ
most_rounds v = if v == 1 then 2 else 3
