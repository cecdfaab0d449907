-- Whom a node convicts, of one member after another.
use Rattle.std.proofs.Common.{ℕ, ◌≡◌, ◌≢◌, ◌<◌, ◌==◌, ◌||◌, ◌⊎◌, Bool, true, false, List, [], ◌∷◌, ◌++◌, sym, ap, ◌∙◌, inl, inr, arith, eq-eqb, eqb-true, ne_eqb}
use Rattle.std.proofs.lemmas.Bool.{cases_Bool, cases_eq, cases_lt, or_left, or_right, or_cases, both_ways}
use Rattle.node_grid.specs.NodeSet.{has_id, with_id}
use Rattle.node_grid.specs.NodeSetLaws.{has-with_id, hasnt-filter}
use Rattle.node_grid.specs.ListLaws.{has_push}

module _ (n i : ℕ) (f : ℕ → Bool) (old ys : List ℕ) (c : ℕ) (low : (k : ℕ) → has_id ys k ≡ true → k < n)
    (here : (k : ℕ) → has_id ys k ≡ true → k ≢ i → has_id old k ≡ f k) (others : (k : ℕ) → has_id ys k ≡ false → has_id old k ≡ false) where
  before : (k : ℕ) → has_id (ys ++ c ∷ []) k ≡ true → k ≢ c → has_id ys k ≡ true
  before k on ne = elim (or_cases (has_id ys k) (c == k) (sym (has_push ys c k) ∙ on)) [
    | inl was ↦ was
    | inr is ↦ absurd (ne (sym (eqb-true c k is)))
  ]

  neither : (k : ℕ) → has_id (ys ++ c ∷ []) k ≡ false → (has_id ys k ≡ false) × (k ≢ c)
  neither k off = elim (cases_Bool (has_id ys k)) [
    | inl on ↦ absurd (both_ways (has_id ys k || (c == k)) (sym (has_push ys c k) ∙ off) (or_left (has_id ys k) (c == k) on))
    | inr out ↦ (out, λ e. both_ways (has_id ys k || (c == k)) (sym (has_push ys c k) ∙ off) (or_right (has_id ys k) (c == k) (eq-eqb c k (sym e))))
  ]

  -- where member c is put into the set
  pub put_here : (new : List ℕ) → new ≡ with_id n old c → c < n → f c ≡ true → (k : ℕ) → has_id (ys ++ c ∷ []) k ≡ true → k ≢ i → has_id new k ≡ f k
  put_here new is low_c yes' k on ne =
      ap (λ (s : List ℕ). has_id s k) is
      ∙ elim (cases_eq k c) [
        | inl e ↦ has-with_id n old c k (omega (arith, e, low_c)) ∙ or_left (k == c) (has_id old k) (eq-eqb k c e) ∙ sym (ap f e ∙ yes')
        | inr other ↦
            let was = before k on other in
            has-with_id n old c k (low k was) ∙ ap (λ (b : Bool). b || has_id old k) (ne_eqb k c other) ∙ here k was ne
      ]

  pub put_others : (new : List ℕ) → new ≡ with_id n old c → (k : ℕ) → has_id (ys ++ c ∷ []) k ≡ false → has_id new k ≡ false
  put_others new is k off =
      let out = neither k off in
      ap (λ (s : List ℕ). has_id s k) is
      ∙ elim (cases_lt k n) [
        | inl below ↦ has-with_id n old c k below ∙ ap (λ (b : Bool). b || has_id old k) (ne_eqb k c out.1) ∙ others k out.0
        | inr high ↦ hasnt-filter (λ q. (q == c) || has_id old q) n k high
      ]

  -- where it is left out
  pub left_here : (c ≡ i) ⊎ (f c ≡ false) → (k : ℕ) → has_id (ys ++ c ∷ []) k ≡ true → k ≢ i → has_id old k ≡ f k
  left_here out k on ne = elim (cases_Bool (has_id ys k)) [
    | inl was ↦ here k was ne
    | inr new ↦ elim (cases_eq k c) [
      | inl e ↦ elim out [
        | inl me ↦ absurd (ne (e ∙ me))
        | inr none ↦ others k new ∙ sym (ap f e ∙ none)
      ]
      | inr other ↦ absurd (both_ways (has_id ys k) new (before k on other))
    ]
  ]

  pub left_others : (k : ℕ) → has_id (ys ++ c ∷ []) k ≡ false → has_id old k ≡ false
  left_others k off = others k (neither k off).0
