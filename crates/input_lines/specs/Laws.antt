-- What holds of the lines of bytes.
use Rattle.std.specs.Prelude.{◌≡◌, ℕ, List, ◌++◌, All, flat_map}
use Rattle.input_lines.specs.Lines.{with_feed, IsUnbroken, lines_of, rest_of}

-- the bytes begin with these lines, each with its line feed, and this rest stands behind them
pub record Begins (bytes : List ℕ) (lines : List (List ℕ)) (rest : List ℕ) : Type 0 where
  pub whole : bytes ≡ flat_map with_feed lines ++ rest
  pub each : All IsUnbroken lines

-- bytes are their lines and their rest, which are the one way to split them
pub record SplitLaw : Type 0 where
  pub splits : (bytes : List ℕ) → Begins bytes (lines_of bytes) (rest_of bytes)
  pub unbroken : (bytes : List ℕ) → IsUnbroken (rest_of bytes)
  pub only : (bytes : List ℕ) (lines : List (List ℕ)) (rest : List ℕ) → Begins bytes lines rest → IsUnbroken rest → (lines_of bytes ≡ lines) × (rest_of bytes ≡ rest)

-- a front of the bytes has a front of the lines, and the others are those of its rest and what comes behind it
pub record FrontLaw : Type 0 where
  pub lines : (front more : List ℕ) → lines_of (front ++ more) ≡ lines_of front ++ lines_of (rest_of front ++ more)
  pub rest : (front more : List ℕ) → rest_of (front ++ more) ≡ rest_of (rest_of front ++ more)
