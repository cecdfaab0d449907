-- What a node has of one other's values, as the code has it.
use Rattle.std.specs.Prelude.{◌≡◌, ℕ, ◌==◌, ℤ, pos, true, List, length, Option, None, Some, slice_index_or, if◌then◌else◌}
use Rattle.node_grid.specs.Kinds.{malformed, cold}
use Rattle.node_grid.specs.NodeSet.{has_id}
use Rattle.protocol.specs.Arrival.{Arrival}
use Rattle.protocol.specs.Arrival.Arrival.{Bad, Good}
use Rattle.protocol.specs.View.{value_of}
use Rattle.told_values.specs.declared.hearing.Heard.{Heard}
use Rattle.told_values.specs.declared.hearing.Heard.TheVariants as code
use Rattle.told_values.specs.Slot.{DataView}

-- by its due channels: the values that it takes these for, or the kind of error
abbrev pub IsHeard : List ℕ → Heard → Arrival (List ℤ) → Type 0
IsHeard due (code.Good values) a = (xs : List ℤ) × (a ≡ Good xs) × ((c : ℕ) → has_id due c ≡ true → slice_index_or values c (pos 0) ≡ value_of due xs c)
IsHeard due (code.Bad kind) a = a ≡ Bad kind

-- the kind of error of a frame from node j to node i that no line touches
abbrev pub untouched_kind : {n : ℕ} → DataView n → ℕ → ℕ → Option ℕ
untouched_kind d j i = if has_id d.full j then (if length (d.due j) == length (d.due i) then None else Some malformed) else Some cold
