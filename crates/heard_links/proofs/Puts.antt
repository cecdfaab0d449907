-- Sets with one node more.
use Rattle.std.proofs.Common.{ℕ, ◌≡◌, ◌≢◌, ◌<◌, ◌⊎◌, ◌==◌, List, true, false, sym, ap, ◌∙◌, inl, inr, eq-eqb, eqb-true}
use Rattle.std.proofs.lemmas.Bool.{or_cases, or_parts, both_ways}
use Rattle.node_grid.specs.NodeSet.{has_id, with_id}
use Rattle.node_grid.specs.NodeSetLaws.{has-with_id}

pub more_off : (n : ℕ) (old new : List ℕ) (j k : ℕ) → new ≡ with_id n old j → k < n → has_id new k ≡ false → (k ≢ j) × (has_id old k ≡ false)
more_off n old new j k is low off =
    let p = or_parts (k == j) (has_id old k) (sym (has-with_id n old j k low) ∙ ap (λ (s : List ℕ). has_id s k) (sym is) ∙ off) in
    ((λ e. both_ways _ p.0 (eq-eqb k j e)), p.1)

pub more_on : (n : ℕ) (old new : List ℕ) (j k : ℕ) → new ≡ with_id n old j → k < n → has_id new k ≡ true → (k ≡ j) ⊎ (has_id old k ≡ true)
more_on n old new j k is low on = elim (or_cases (k == j) (has_id old k) (sym (has-with_id n old j k low) ∙ ap (λ (s : List ℕ). has_id s k) (sym is) ∙ on)) [
  | inl here ↦ inl (eqb-true k j here)
  | inr before ↦ inr before
]
