-- The words that the program is called with.
use Rattle.std.specs.Prelude.{◌≡◌, ℕ, ◌+◌, ◌^◌, ◌<◌, ◌≤◌, List, [], ◌∷◌, codes, decimal, map, String, string_bytes}
use Rattle.std.specs.declared.alloc.Global.{Global}
use Rattle.judge.specs.declared.words.Command.{Command}
use Rattle.judge.specs.declared.words.Command.TheVariants.{Lines, Draw, Show}

-- the bytes of each word
abbrev pub texts : List (String Global) → List (List ℕ)
texts ws = map string_bytes ws

-- the words of each call; numbers are in decimal, without zeros before them
abbrev pub words_of : Command → List (List ℕ)
words_of Lines = []
words_of (Draw d) = codes "draw" ∷ decimal d.seed ∷ decimal d.first ∷ decimal d.count ∷ []
words_of (Show d) = codes "show" ∷ decimal d.seed ∷ decimal d.index ∷ []

-- seeds and indices are below 2^32
abbrev pub IsInRange : Command → Type 0
IsInRange Lines = Unit {0}
IsInRange (Draw d) = (d.seed < 2 ^ 32) × (d.first < 2 ^ 32) × (d.first + d.count ≤ 2 ^ 32)
IsInRange (Show d) = (d.seed < 2 ^ 32) × (d.index < 2 ^ 32)

abbrev pub Calls : List (List ℕ) → Command → Type 0
Calls ws command = IsInRange command × (ws ≡ words_of command)
