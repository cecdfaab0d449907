-- What is laid down for one node of one member's item.
use Rattle.std.proofs.Common.{ℕ, ◌≡◌, ◌≢◌, ◌<◌, ◌+◌, ◌*◌, ◌==◌, ◌&&◌, ◌||◌, ◌⊎◌, Bool, true, false, not, List, [], length, refl, sym, ap, ◌∙◌, inl, inr, arith, eq-eqb, ne_eqb, get_or, set, get_or-set_same, get_or-set_other}
use Rattle.std.proofs.lemmas.Bool.{cases_eq, or_left, and_parts, not-true}
use Rattle.node_grid.specs.NodeSet.{has_id, with_id, without_id, minus_of}
use Rattle.node_grid.specs.NodeSetLaws.{has-with_id, has-without_id}
use Rattle.node_grid.specs.SetFacts.{has_minus}
use Rattle.item_phase.proofs.Placing.{rows_apart}

-- places by member and node
pub places_apart : (n c k i j : ℕ) → i < n → j < n → (k ≢ c) ⊎ (i ≢ j) → k * n + i ≢ c * n + j
places_apart n c k i j low_i low_j apart = elim (cases_eq k c) [
  | inl e ↦ elim apart [
    | inl ne ↦ absurd (ne e)
    | inr ne ↦ λ h. ne (let same : k * n ≡ c * n = ap (λ (z : ℕ). z * n) e in omega (arith, same, h))
  ]
  | inr ne ↦ elim (rows_apart n c k i ne low_i) [
    | inl before ↦ λ h. omega (arith, before, h)
    | inr behind ↦ λ h. omega (arith, behind, h)
  ]
]

-- a set in which a node is, or isn't
pub marked_in : (n : ℕ) (s : List ℕ) (i : ℕ) → i < n → has_id (with_id n (without_id s i) i) i ≡ true
marked_in n s i low = has-with_id n (without_id s i) i i low ∙ or_left (i == i) _ (eq-eqb i i refl)

pub kept_out : (s : List ℕ) (i k : ℕ) → k ≢ i → has_id (without_id s i) k ≡ has_id s k
kept_out s i k ne = has-without_id s i k ∙ ap (λ (b : Bool). not b && has_id s k) (ne_eqb k i ne)

pub kept_in : (n : ℕ) (s : List ℕ) (i k : ℕ) → k < n → k ≢ i → has_id (with_id n (without_id s i) i) k ≡ has_id s k
kept_in n s i k low ne =
    has-with_id n (without_id s i) i k low ∙ ap (λ (b : Bool). b || has_id (without_id s i) k) (ne_eqb k i ne) ∙ kept_out s i k ne

-- the sets by member, where one of them is put in place of another
pub set_kept : (sets now : List (List ℕ)) (c : ℕ) (more : List ℕ) → now ≡ set sets c more → (i k : ℕ) → k ≢ c → has_id (get_or now k []) i ≡ has_id (get_or sets k []) i
set_kept sets now c more is i k ne = ap (λ (those : List (List ℕ)). has_id (get_or those k []) i) is ∙ ap (λ (s : List ℕ). has_id s i) (get_or-set_other sets c k more [] ne)

pub set_here : (sets now : List (List ℕ)) (c : ℕ) (more : List ℕ) → now ≡ set sets c more → c < length sets → get_or now c [] ≡ more
set_here sets now c more is room = ap (λ (those : List (List ℕ)). get_or those c []) is ∙ get_or-set_same sets c more [] room

pub in_minus : (these those : List ℕ) (q : ℕ) → has_id (minus_of these those) q ≡ true → (has_id these q ≡ true) × (has_id those q ≡ false)
in_minus these those q on =
    let parts = and_parts (not (has_id those q)) (has_id these q) (sym (has_minus these those q) ∙ on) in
    (parts.1, not-true (has_id those q) parts.0)

-- a node of one set that isn't left without another one is in that
pub taken_out : (these those : List ℕ) (q : ℕ) → has_id (minus_of these those) q ≡ false → has_id these q ≡ true → has_id those q ≡ true
taken_out these those q out = left_out (has_id those q) (has_id these q) (sym (has_minus these those q) ∙ out)
  where
    left_out : (a b : Bool) → (not a && b) ≡ false → b ≡ true → a ≡ true
    left_out true b off on = refl
    left_out false b off on = cc
