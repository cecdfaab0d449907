-- Cells, each with the comma before it.
use Rattle.std.specs.Fmt.{signed_decimal}
use Rattle.std.specs.Prelude.{ℕ, ℤ, Bool, List, ◌++◌, Option, None, Some, codes, decimal}
use Rattle.node_grid.specs.declared.class.Class.{Class}
use Rattle.run_text.specs.Text.{class_text, yes_no}

abbrev pub cell : ℕ → List ℕ
cell n = codes "," ++ decimal n

-- an empty one where there is nothing to tell
abbrev pub maybe_cell : Option ℕ → List ℕ
maybe_cell None = codes ","
maybe_cell (Some n) = cell n

abbrev pub signed_cell : Option ℤ → List ℕ
signed_cell None = codes ","
signed_cell (Some z) = codes "," ++ signed_decimal z

abbrev pub class_cell : Class → List ℕ
class_cell c = codes "," ++ class_text c

abbrev pub whether_cell : Bool → List ℕ
whether_cell b = codes "," ++ yes_no b
