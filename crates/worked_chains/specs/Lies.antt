-- What drawn odd members pass on: a value that follows from a seed, the receiver and the path.
use Rattle.std.specs.Prelude.{ℕ, ◌+◌, ◌*◌, ◌%◌, ◌==◌, ◌&&◌, nat_lt, List, [], ◌∷◌, length, if◌then◌else◌}
use Rattle.omh_paths.specs.declared.wrapped.Wrapped.{Wrapped}
use Rattle.omh_paths.specs.declared.wrapped.Wrapped.TheVariants.{Plain, Fault}
use Rattle.worked_chains.specs.declared.lies.Lies.{Lies}

-- a number made of another one and of the nodes of a path
abbrev pub mixed : ℕ → List ℕ → ℕ
mixed k [] = k
mixed k (q ∷ path) = mixed ((7 * k + q) % 251) path

-- the value of a number
abbrev pub drawn_value : ℕ → Wrapped ℕ
drawn_value k = if nat_lt (k % 5) 2 then Fault (k % 5) else Plain (k % 5)

-- which of its accounts a receiver is given: with thirds, one of three in the last round
abbrev pub account_of : Lies → ℕ → ℕ → ℕ
account_of s to len = if s.by_thirds && (len == s.last) then to % 3 else to

abbrev pub drawn_lie : Lies → ℕ → List ℕ → Wrapped ℕ
drawn_lie s to path = drawn_value (mixed ((s.seed + 31 * account_of s to (length path)) % 251) path)
