-- What is settled of an item.
use Rattle.std.specs.Prelude.{ℕ, Bool, List, map, Option, None, if◌then◌else◌}
use Rattle.node_grid.specs.NodeSet.{has_id, ids_below}
use Rattle.omh.specs.Omh.{settled_from}
use Rattle.omh.specs.Heard.{Hearing, ear_of}
use Rattle.protocol.specs.Settled.{plain}

-- the settled item of a node, where it is a member and that is no error
abbrev pub settled_at_node : {V : Type 0} → (V → V → Bool) → Hearing V → ℕ → Option V
settled_at_node eq h c = if has_id h.members c then plain (settled_from eq (ear_of h) h.own c) else None

-- that of each node
abbrev pub settled_in : {V : Type 0} → (V → V → Bool) → ℕ → Hearing V → List (Option V)
settled_in eq capacity h = map (settled_at_node eq h) (ids_below capacity)
