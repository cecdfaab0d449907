-- What a node answers: what it says in a slot, and by how much it corrects its clock.
use Rattle.std.specs.Fmt.{signed_decimal}
use Rattle.std.specs.Prelude.{ℕ, ℤ, List, ◌++◌, codes, decimal}
use Rattle.hex.specs.Hex.{encode_lower}

-- the line of a slot: the frame that the node sends in it, which is never empty
abbrev pub say_text : ℕ → List ℕ → List ℕ
say_text slot frame = codes "say " ++ decimal slot ++ codes " " ++ encode_lower frame ++ codes "\n"

-- the line of a clock that is corrected by so much
abbrev pub correct_text : ℤ → List ℕ
correct_text by = codes "correct " ++ signed_decimal by ++ codes "\n"
