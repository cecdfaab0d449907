-- The lines of bytes: what stands before each line feed, and what stands behind the last one.
use Rattle.std.specs.Prelude.{ℕ, ◌≢◌, Bool, false, cond, ◌==◌, ◌||◌, List, [], ◌∷◌, ◌++◌, All}

-- the code of a line feed
abbrev pub line_feed : ℕ
line_feed = 10

-- a line with its line feed
abbrev pub with_feed : List ℕ → List ℕ
with_feed line = line ++ line_feed ∷ []

-- there is no line feed in the bytes
abbrev pub IsUnbroken : List ℕ → Type 0
IsUnbroken bytes = All (λ c. c ≢ line_feed) bytes

-- c stands before the first line, where there is a line
abbrev pub before_first : ℕ → List (List ℕ) → List (List ℕ)
before_first c [] = []
before_first c (line ∷ lines) = (c ∷ line) ∷ lines

-- what stands before each line feed, in order
abbrev pub lines_of : List ℕ → List (List ℕ)
lines_of [] = []
lines_of (c ∷ bytes) = cond (c == line_feed) ([] ∷ lines_of bytes) (before_first c (lines_of bytes))

-- whether there is a line feed
abbrev pub has_feed : List ℕ → Bool
has_feed [] = false
has_feed (c ∷ bytes) = c == line_feed || has_feed bytes

-- what stands behind the last line feed; all, where there is none
abbrev pub rest_of : List ℕ → List ℕ
rest_of [] = []
rest_of (c ∷ bytes) = cond (has_feed (c ∷ bytes)) (rest_of bytes) (c ∷ bytes)
