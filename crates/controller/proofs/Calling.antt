-- The words of a call.
use Rattle.std.proofs.Common.{◌≡◌, ℕ, List, [], ◌∷◌, length, get_or, ap, arith, sym}
use Rattle.std.specs.Prelude.{String, string_bytes}
use Rattle.std.specs.declared.alloc.Global.{Global}
use Rattle.controller.specs.Words.{texts}

-- the text of a lone word
pub one_word : (ws : List (String Global)) (w : String Global) → length ws ≡ 1 → w ≡ get_or ws 0 w → texts ws ≡ string_bytes w ∷ []
one_word [] w h e = absurd (omega arith)
one_word (x ∷ []) w h e = ap (λ y. string_bytes y ∷ []) (sym e)
one_word (x ∷ y ∷ ws) w h e = absurd (omega arith)

pub only : (x y : List ℕ) → ◌≡◌ {A = List (List ℕ)} (x ∷ []) (y ∷ []) → x ≡ y
only x y e = cc
