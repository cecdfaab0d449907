-- A part of a list that is written over.
use Rattle.std.specs.Prelude.{ℕ, ◌+◌, List, ◌++◌, take, drop, length}

-- a list with these elements from a place on
abbrev pub laid : {X : Type 0} → ℕ → List X → List X → List X
laid at xs old = take at old ++ xs ++ drop (at + length xs) old
