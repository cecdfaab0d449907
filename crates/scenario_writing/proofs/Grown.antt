-- Lists of values that grow by the next item, as they are read back.
use Rattle.std.proofs.Common.{◌≡◌, ℕ, ◌+◌, ◌<◌, ◌≤◌, List, [], ◌∷◌, ◌++◌, length, take, map, get_or, refl, sym, ap, ◌∙◌, Option, Some, None, Vec, Global}
use Rattle.std.specs.Prelude.{option_map, option_and_then}
use Rattle.std.proofs.lemmas.List.{map-append, take_more, take_all}
use Rattle.serde_json.specs.Data.{Data}
use Rattle.serde_json.specs.View.{items_view, view}
use Rattle.serde_json.specs.declared.value.Value.{Value, Array}
use Rattle.serde_json.proofs.Views.{view-Array}
use Rattle.json_parts.specs.Reading.{each, list_of}

module _ {X : Type 0} where
  -- an item behind others
  abbrev pub behind : Option X → Option (List X) → Option (List X)
  behind last before = option_and_then (λ xs. option_map (λ x. xs ++ x ∷ []) last) before

  alone : (o : Option X) → option_and_then (λ y. Some (y ∷ [])) o ≡ behind o (Some [])
  alone None = refl
  alone (Some x) = refl

  first_of : (first : Option X) (before : Option (List X)) (last : Option X)
      → option_and_then (λ y. option_map (λ ys. y ∷ ys) (behind last before)) first ≡ behind last (option_and_then (λ y. option_map (λ ys. y ∷ ys) before) first)
  first_of None before last = refl
  first_of (Some x) None last = refl
  first_of (Some x) (Some xs) None = refl
  first_of (Some x) (Some xs) (Some y) = refl

  each-append : (f : Data → Option X) (vs : List Value) (v : Value) → each f (items_view (vs ++ v ∷ [])) ≡ behind (f (view v)) (each f (items_view vs))
  each-append f [] v = alone (f (view v))
  each-append f (w ∷ vs) v =
      ap (λ o. option_and_then (λ y. option_map (λ ys. y ∷ ys) o) (f (view w))) (each-append f vs v)
      ∙ first_of (f (view w)) (each f (items_view vs)) (f (view v))

  -- a value was pushed that is read as the next item
  pub next : {A : Type 0} (f : Data → Option X) (seen : A → X) (items : List A) (k : ℕ) (d : A) (v : Value) (before after : List Value)
      → k < length items → f (view v) ≡ Some (seen (get_or items k d)) → after ≡ before ++ v ∷ []
      → each f (items_view before) ≡ Some (map seen (take k items)) → each f (items_view after) ≡ Some (map seen (take (k + 1) items))
  next f seen items k d v before after low reads pushed so_far =
      ap (λ vs. each f (items_view vs)) pushed
      ∙ each-append f before v
      ∙ ap (λ o. behind (f (view v)) o) so_far
      ∙ ap (λ o. behind o (Some (map seen (take k items)))) reads
      ∙ ap Some (sym (map-append seen (take k items) (get_or items k d ∷ [])) ∙ ap (map seen) (sym (take_more items k d low)))

  -- all were pushed
  pub all : {A : Type 0} (f : Data → Option X) (seen : A → X) (items : List A) (k : ℕ) (values : Vec Value Global)
      → length items ≤ k → each f (items_view values.items) ≡ Some (map seen (take k items)) → list_of f (view (Array values)) ≡ Some (map seen items)
  all f seen items k values past so_far =
      ap (list_of f) (view-Array values) ∙ so_far ∙ ap (λ xs. Some (map seen xs)) (take_all k items past)

-- nothing is changed of numbers
pub as_they_are : {A : Type 0} (xs : List A) → map (λ x. x) xs ≡ xs
as_they_are [] = refl
as_they_are (x ∷ xs) = ap (λ ys. x ∷ ys) (as_they_are xs)
