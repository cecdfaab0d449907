-- Where a node has no value of its own it says 0, and what it says is in range.
use Rattle.std.proofs.Common.{ℕ, zero, suc, ◌≡◌, List, [], ◌∷◌, map, replicate, Option, None, ℤ, refl, sym, subst}
use Rattle.std.specs.Prelude.{All, slice_index_or}
use Rattle.std.proofs.lemmas.List.Elements.{All-nil, All-cons}
use Rattle.frames.specs.Content.{IsValue}
use Rattle.frames.specs.Facts.{zero_value}
use Rattle.protocol.specs.View.{first_there, own_in}

none_there : (n c : ℕ) → slice_index_or (replicate {A = Option ℤ} n None) c None ≡ None
none_there zero zero = refl
none_there zero (suc c) = refl
none_there (suc n) zero = refl
none_there (suc n) (suc c) = none_there n c

pub no_values_fit : (n c : ℕ) → IsValue (own_in (replicate n None) c)
no_values_fit n c = subst (λ (o : Option ℤ). IsValue (first_there o None)) (sym (none_there n c)) zero_value

-- what the data frame says
pub all_sent : (own : List (Option ℤ)) (due : List ℕ) → ((c : ℕ) → IsValue (own_in own c)) → All IsValue (map (own_in own) due)
all_sent own [] h = All-nil IsValue
all_sent own (d ∷ ds) h = All-cons IsValue (own_in own d) (map (own_in own) ds) (h d) (all_sent own ds h)
