-- The capacity in nodes for which a cluster's types are laid out.
use Rattle.std.specs.Prelude.{◌≡◌, ℕ, ◌⊎◌}

-- types are laid out for 8 nodes or for 16
abbrev pub IsCapacity : ℕ → Type 0
IsCapacity n = (n ≡ 8) ⊎ (n ≡ 16)
