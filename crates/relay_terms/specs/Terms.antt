-- What a term says.
use Rattle.std.specs.Prelude.{ℕ, ◌==◌, List, drop, slice_index, if◌then◌else◌}
use Rattle.omh_paths.specs.declared.wrapped.Wrapped.{Wrapped}
use Rattle.omh_paths.specs.declared.wrapped.Wrapped.TheVariants.{Plain, Fault}
use Rattle.relay_terms.specs.declared.term.Term.{Term}

-- an item, an error that was wrapped, or the error itself
abbrev pub said : {V : Type 0} → Term V → Wrapped V
said t = if t.tag == 0 then Plain t.item else (if t.tag == 255 then Fault 0 else Fault t.tag)

-- what an entry of a frame says: its tag, and then the bytes of an item
abbrev pub term_in : {V : Type 0} → (List ℕ → V) → List ℕ → Wrapped V
term_in of_bytes entry = if slice_index entry 0 == 0 then Plain (of_bytes (drop 1 entry)) else Fault (slice_index entry 0)
