-- A list that is read item by item: what was found so far, and then what the rest gives.
use Rattle.std.proofs.Common.{◌≡◌, ℕ, ◌+◌, suc, ◌<◌, List, [], ◌∷◌, ◌++◌, length, drop, get_or, refl, sym, ap, ◌∙◌, append_assoc, Option, Some, None, add-one}
use Rattle.std.specs.Prelude.{option_map, option_and_then}
use Rattle.std.proofs.Math.Seq.{drop-cons}
use Rattle.serde_json.specs.Data.{Data}
use Rattle.std.specs.declared.alloc.Global.{Global}
use Rattle.json.specs.Value.{items_view}
use Rattle.json.specs.declared.value.Value.{Value}
use Rattle.json_parts.specs.Meaning.{view, items_data}
use Rattle.json_parts.specs.Reading.{each}

-- found, and then those of the rest
abbrev pub after : {X : Type 0} → List X → Option (List X) → Option (List X)
after found rest = option_map (λ ys. found ++ ys) rest

pub after-nil : {X : Type 0} (rest : Option (List X)) → after [] rest ≡ rest
after-nil None = refl
after-nil (Some ys) = refl

one : {X : Type 0} (found : List X) (x : X) (rest : Option (List X)) → after (found ++ x ∷ []) rest ≡ after found (option_map (λ ys. x ∷ ys) rest)
one found x None = refl
one found x (Some ys) = ap Some (append_assoc found (x ∷ []) ys)

-- the next item was read
pub each-some : {X : Type 0} (f : Data → Option X) (vs : List (Value Global)) (v : Value Global) (found : List X) (x : X) → f (view v) ≡ Some x → after found (each f (items_data (items_view (v ∷ vs)))) ≡ after (found ++ x ∷ []) (each f (items_data (items_view vs)))
each-some f vs v found x e = ap (λ o. after found (option_and_then (λ y. option_map (λ ys. y ∷ ys) (each f (items_data (items_view vs)))) o)) e ∙ sym (one found x (each f (items_data (items_view vs))))

-- the next item gives nothing
pub each-none : {X : Type 0} (f : Data → Option X) (vs : List (Value Global)) (v : Value Global) (found : List X) → f (view v) ≡ None → after found (each f (items_data (items_view (v ∷ vs)))) ≡ None
each-none f vs v found e = ap (λ o. after found (option_and_then (λ y. option_map (λ ys. y ∷ ys) (each f (items_data (items_view vs)))) o)) e

-- what is left begins with the element at i
pub drop-here : {X : Type 0} (xs : List X) (i : ℕ) (x : X) → i < length xs → x ≡ get_or xs i x → drop i xs ≡ x ∷ drop (i + 1) xs
drop-here xs i x h e = rw (add-one, drop-cons xs i x) (ap (λ w. w ∷ drop (suc i) xs) (sym e))
