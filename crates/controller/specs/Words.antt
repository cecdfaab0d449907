-- The words that the program is called with.
use Rattle.std.specs.Prelude.{◌≡◌, ℕ, ◌≤◌, List, [], ◌∷◌, decimal, map, String, string_bytes}
use Rattle.std.specs.declared.alloc.Global.{Global}

-- the bytes of each word
abbrev pub texts : List (String Global) → List (List ℕ)
texts ws = map string_bytes ws

-- the one word is the number of a node, in decimal, without zeros before it
abbrev pub Calls : List (List ℕ) → ℕ → Type 0
Calls ws id = (id ≤ 15) × (ws ≡ decimal id ∷ [])
