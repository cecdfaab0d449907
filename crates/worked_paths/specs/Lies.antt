-- What liars say.
use Rattle.std.specs.Prelude.{ℕ, ◌+◌, ◌*◌, ◌==◌, nat_le, List, length, slice_index_or, Option, Some, None, if◌then◌else◌}
use Rattle.omh_paths.specs.declared.wrapped.Wrapped.{Wrapped}
use Rattle.omh_paths.specs.declared.wrapped.Wrapped.TheVariants.{Plain, Fault}
use Rattle.omh.specs.Written.{last_node}

-- what a number stands for: nothing is changed, nothing is heard, an error of an error, or a value
abbrev pub lie : ℕ → Option (Wrapped ℕ)
lie code = if code == 0 then None else if code == 1 then Some (Fault 0) else if code == 2 then Some (Fault 1) else Some (Plain code)

-- what the last node of a path of at most so many nodes says to node i, by a number for each liar and receiver of eight nodes
abbrev pub lies : List ℕ → ℕ → ℕ → List ℕ → Option (Wrapped ℕ)
lies codes longest i path = if nat_le (length path) longest then lie (slice_index_or codes (last_node path * 8 + i) 0) else None
