-- Lists of five values, and others, which are no entries.
use Rattle.std.proofs.Common.{◌≡◌, List, [], ◌∷◌, length, get_or, None, refl, ap, ◌∙◌, arith}
use Rattle.std.specs.declared.alloc.Global.{Global}
use Rattle.json.specs.Value.{items_view}
use Rattle.json.specs.declared.value.Value.{Value}
use Rattle.json_parts.specs.Meaning.{view, items_data}
use Rattle.node_alone.specs.Parts.{entry_of_items, entry_in}

pub not_five : (vs : List (Value Global)) → (length vs ≡ 5 → ⊥) → entry_in (items_data (items_view vs)) ≡ None
not_five [] h = refl
not_five (a ∷ []) h = refl
not_five (a ∷ b ∷ []) h = refl
not_five (a ∷ b ∷ c ∷ []) h = refl
not_five (a ∷ b ∷ c ∷ d ∷ []) h = refl
not_five (a ∷ b ∷ c ∷ d ∷ e ∷ []) h = absurd (h refl)
not_five (a ∷ b ∷ c ∷ d ∷ e ∷ f ∷ vs) h = refl

pub five : (vs : List (Value Global)) (a b c d e : Value Global) → length vs ≡ 5 → a ≡ get_or vs 0 a → b ≡ get_or vs 1 b → c ≡ get_or vs 2 c → d ≡ get_or vs 3 d → e ≡ get_or vs 4 e
    → entry_of_items (view a) (view b) (view c) (view d) (view e) ≡ entry_in (items_data (items_view vs))
five [] a b c d e l p q r s t = absurd (omega (arith, l))
five (v ∷ []) a b c d e l p q r s t = absurd (omega (arith, l))
five (v ∷ w ∷ []) a b c d e l p q r s t = absurd (omega (arith, l))
five (v ∷ w ∷ x ∷ []) a b c d e l p q r s t = absurd (omega (arith, l))
five (v ∷ w ∷ x ∷ y ∷ []) a b c d e l p q r s t = absurd (omega (arith, l))
five (v ∷ w ∷ x ∷ y ∷ z ∷ []) a b c d e l p q r s t =
    ap (λ i. entry_of_items (view i) (view b) (view c) (view d) (view e)) p ∙ ap (λ i. entry_of_items (view v) (view i) (view c) (view d) (view e)) q
    ∙ ap (λ i. entry_of_items (view v) (view w) (view i) (view d) (view e)) r ∙ ap (λ i. entry_of_items (view v) (view w) (view x) (view i) (view e)) s
    ∙ ap (λ i. entry_of_items (view v) (view w) (view x) (view y) (view i)) t
five (v ∷ w ∷ x ∷ y ∷ z ∷ u ∷ vs) a b c d e l p q r s t = absurd (omega (arith, l))
