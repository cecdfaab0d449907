-- What a write leaves of a buffer.
use Rattle.std.specs.Prelude.{ℕ, ◌+◌, List, ◌++◌, length, take, drop}

-- the buffer with these bytes from a place on
abbrev pub pasted : ℕ → List ℕ → List ℕ → List ℕ
pasted at bytes old = take at old ++ bytes ++ drop (at + length bytes) old
