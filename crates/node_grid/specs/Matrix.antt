-- A row of accusations as the list of its masks, and a matrix as the list of its optional rows.
use Rattle.std.specs.Prelude.{ℕ, List, Option, None, slice_index_or}

-- the row that stands at q, if one does
abbrev pub row_at : List (Option (List ℕ)) → ℕ → Option (List ℕ)
row_at rows q = slice_index_or rows q None
