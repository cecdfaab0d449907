-- What is heard for paths of odd members behind the commander, with no path looked at that ends in another member.
use Rattle.std.specs.Prelude.{ℕ, Bool, ◌+◌, ◌-◌, ◌==◌, List, length, slice_index_or, if◌then◌else◌}
use Rattle.node_grid.specs.NodeSet.{has_id}
use Rattle.omh_paths.specs.declared.wrapped.Wrapped.{Wrapped}
use Rattle.omh_paths.specs.declared.wrapped.Wrapped.TheVariants.{Fault}
use Rattle.omh.specs.Omh.{World}
use Rattle.odd_relays.specs.Telling.{Telling}
use Rattle.odd_relays.specs.Chains.{chain_within}

-- what node i heard for such a path
abbrev pub direct_heard : {V : Type 0} → Telling V → ℕ → List ℕ → Wrapped V
direct_heard t i path = if length path == 1 then slice_index_or t.told i (Fault 0) else t.says i path

-- a world that is the item's for these paths
abbrev pub direct_world : {V : Type 0} → Telling V → World V
direct_world t = record { rounds = t.rounds; members = t.members; is_full = λ q. has_id t.full q; heard = direct_heard t }

-- what node i settles for such a path, by those of them that are longer
abbrev pub direct_settled : {V : Type 0} → (V → V → Bool) → Telling V → ℕ → List ℕ → Wrapped V
direct_settled eq t i path = chain_within eq (direct_world t) t.odd i (t.rounds + 1 - length path) path
