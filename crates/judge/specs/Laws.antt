-- What holds of rows, over the definitions alone.
use Rattle.std.specs.Prelude.{◌≡◌, ℕ, List}
use Rattle.judge.specs.Rows.{IsRowsOf, AreRows}

-- the bytes of a line decide its rows, and so do those of lines
pub record OneTextLaw : Type 0 where
  pub of_line : (n : ℕ) (line one other : List ℕ) → IsRowsOf n line one → IsRowsOf n line other → one ≡ other
  pub of_lines : (n : ℕ) (lines : List (List ℕ)) (one other : List ℕ) → AreRows n lines one → AreRows n lines other → one ≡ other
