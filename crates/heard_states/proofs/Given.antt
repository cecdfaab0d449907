-- The states after one node was given one.
use Rattle.std.proofs.Common.{ℕ, ◌≡◌, ◌≢◌, ◌<◌, ◌||◌, false, List, [], length, Option, None, Some, refl, sym, ap, ◌∙◌, inl, inr, arith, eq-eqb, ne_eqb, if◌then◌else◌, ◌==◌}
use Rattle.std.proofs.lemmas.Bool.{cases_lt, cond-true, cond-false}
use Rattle.std.proofs.lemmas.List.{get_or_past}
use Rattle.std.proofs.lemmas.List.FromFn.{get_or-map-range_with_len, length-map-range_with_len}
use Rattle.node_grid.specs.NodeSet.{has_id, with_id}
use Rattle.node_grid.specs.NodeSetLaws.{has-with_id}
use Rattle.agreed_state.specs.Agreed.{AgreedView}
use Rattle.shared_states.specs.Sharing.{state_at, with_state, shared_with}

module _ (n : ℕ) (view : List (Option AgreedView)) (i : ℕ) (a : AgreedView) (low : i < n) (long : length view ≡ n) where
  abbrev entry : ℕ → Option AgreedView
  entry k = if has_id (with_id n [] i) k then Some a else state_at view k

  -- node i has it
  pub given_own : state_at (with_state n view (with_id n [] i) a) i ≡ Some a
  given_own =
      get_or-map-range_with_len entry 0 n i i None low (omega arith)
      ∙ cond-true (has_id (with_id n [] i) i) (Some a) (state_at view i) (has-with_id n [] i i low ∙ ap (λ b. b || false) (eq-eqb i i refl))

  -- and the others what they had
  pub given_other : (k : ℕ) → k ≢ i → state_at (with_state n view (with_id n [] i) a) k ≡ state_at view k
  given_other k other = elim (cases_lt k n) [
    | inl within ↦
        get_or-map-range_with_len entry 0 n k k None within (omega arith)
        ∙ cond-false (has_id (with_id n [] i) k) (Some a) (state_at view k) (has-with_id n [] i k within ∙ ap (λ b. b || false) (ne_eqb k i other))
    | inr past ↦
        get_or_past (with_state n view (with_id n [] i) a) k None (omega (arith, length-map-range_with_len entry 0 n))
        ∙ sym (get_or_past view k None (omega (arith, long)))
  ]

  pub given_long : length (with_state n view (with_id n [] i) a) ≡ n
  given_long = length-map-range_with_len entry 0 n

-- the states after node i was given that of node j
module _ (n : ℕ) (view : List (Option AgreedView)) (i j : ℕ) (low : i < n) (long : length view ≡ n) where
  abbrev share : ℕ → Option AgreedView
  share k = if k == i then state_at view j else state_at view k

  pub shared_own : state_at (shared_with n view i j) i ≡ state_at view j
  shared_own = get_or-map-range_with_len share 0 n i i None low (omega arith) ∙ cond-true (i == i) (state_at view j) (state_at view i) (eq-eqb i i refl)

  pub shared_other : (k : ℕ) → k ≢ i → state_at (shared_with n view i j) k ≡ state_at view k
  shared_other k other = elim (cases_lt k n) [
    | inl within ↦ get_or-map-range_with_len share 0 n k k None within (omega arith) ∙ cond-false (k == i) (state_at view j) (state_at view k) (ne_eqb k i other)
    | inr past ↦ get_or_past (shared_with n view i j) k None (omega (arith, length-map-range_with_len share 0 n)) ∙ sym (get_or_past view k None (omega (arith, long)))
  ]

  pub shared_long : length (shared_with n view i j) ≡ n
  shared_long = length-map-range_with_len share 0 n
