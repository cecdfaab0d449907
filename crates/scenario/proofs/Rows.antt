-- Rows of numbers: what stands behind their numbers, and how close these are.
use Rattle.std.proofs.Common.{◌≡◌, ℕ, zero, suc, ◌-◌, ◌<◌, ◌≤◌, ◌%◌, ◌≤ℤ◌, ℤ, pos, true, false, get_or, ◌==◌, List, [], ◌∷◌, ◌++◌, map, length, replicate, refl, sym, ap, ◌∙◌, arith, inl, inr}
use Rattle.std.specs.Prelude.{slice_index_or}
use Rattle.std.specs.List.{list_all}
use Rattle.std.proofs.lemmas.Bool.{cases_lt, not-true, eqb-true}
use Rattle.std.proofs.lemmas.List.{length-map, get_or_append_left, get_or_past}
use Rattle.std.proofs.lemmas.List as list
use Rattle.std.proofs.lemmas.Nat.{mod_below}
use Rattle.node_grid.specs.NumberFacts.{int_not_less}
use Rattle.mme_vote.specs.Vote.{distance}
use Rattle.clock_skew.specs.Clock.{number_at, row_in_turn}
use Rattle.scenario.specs.Given.{padded}
use Rattle.scenario.specs.Scenario.{reading_given}
use Rattle.scenario.specs.Rules.{is_near, are_close}
use Rattle.scenario.proofs.Ranges.{passes}

pub zeros_behind : (xs : List ℤ) (n k : ℕ) → length xs ≤ k → slice_index_or (xs ++ replicate n (pos 0)) k (pos 0) ≡ pos 0
zeros_behind [] zero k h = refl
zeros_behind [] (suc n) zero h = refl
zeros_behind [] (suc n) (suc k) h = zeros_behind [] n k (omega arith)
zeros_behind (x ∷ xs) n zero h = absurd (omega arith)
zeros_behind (x ∷ xs) n (suc k) h = zeros_behind xs n k (omega arith)

pub near_is : (delta v w : ℤ) → is_near delta v w ≡ true → pos (distance v w) ≤ℤ delta
near_is delta v w h = int_not_less delta (pos (distance v w)) (not-true _ h)

pub close_row : (delta : ℤ) (row : List ℤ) (i j : ℕ) → are_close delta row ≡ true → i < length row → j < length row
    → pos (distance (slice_index_or row i (pos 0)) (slice_index_or row j (pos 0))) ≤ℤ delta
close_row delta row i j h low low_too =
    near_is delta (slice_index_or row i (pos 0)) (slice_index_or row j (pos 0)) (passes (is_near delta (slice_index_or row i (pos 0))) row j (pos 0) (passes (λ v. list_all (is_near delta v) row) row i (pos 0) h low) low_too)

-- what is put behind a row doesn't change its numbers
pub padded_number : (capacity : ℕ) (row : List ℤ) (i : ℕ) → number_at (padded capacity row) i ≡ number_at row i
padded_number capacity row i = elim (cases_lt i (length row)) [
  | inl low ↦ get_or_append_left row (replicate (capacity - length row) (pos 0)) (pos 0) i low
  | inr past ↦ zeros_behind row (capacity - length row) i past ∙ sym (get_or_past row i (pos 0) past)
]

pub padded_row : (capacity : ℕ) (rows : List (List ℤ)) (k : ℕ) → 1 ≤ length rows → row_in_turn (map (padded capacity) rows) k ≡ padded capacity (row_in_turn rows k)
padded_row capacity rows k some =
    let long = length-map rows (padded capacity) in
    ap (λ n. slice_index_or (map (padded capacity) rows) (k % n) []) long ∙ list.get_or-map (padded capacity) rows (k % length rows) [] [] (mod_below k (length rows) (omega arith))

-- rows, where there are some, and none

pub some_of : (n : ℕ) → (n == 0) ≡ false → 0 < n
some_of zero h = let none : true ≡ false = h in cc
some_of (suc n) h = omega arith

pub no_reading : {X : Type 0} (v : X → List ℤ) (i p : ℕ) (rows : List X) → (length rows == 0) ≡ true → pos 0 ≡ reading_given i p (map v rows)
no_reading v i p [] h = refl
no_reading v i p (row ∷ rows) h = let none : length (row ∷ rows) ≡ 0 = eqb-true (length (row ∷ rows)) 0 h in absurd (omega arith)

-- the number of a node in the row whose turn it is
module _ {X : Type 0} (v : X → List ℤ) (rows : List X) (i p : ℕ) (row : X) (some : (length rows == 0) ≡ false) (is : row ≡ get_or rows (p % length rows) row) where
  turn_is : slice_index_or (map v rows) (p % length (map v rows)) [] ≡ v row
  turn_is =
      ap (λ n. slice_index_or (map v rows) (p % n) []) (length-map rows v)
      ∙ list.get_or-map v rows (p % length rows) row [] (mod_below p (length rows) (some_of (length rows) some))
      ∙ ap v (sym is)

  pub reading_is : slice_index_or (v row) i (pos 0) ≡ reading_given i p (map v rows)
  reading_is = sym (ap (λ ys. slice_index_or ys i (pos 0)) turn_is)

  pub no_number : (ys : List ℤ) → ys ≡ v row → length ys ≤ i → pos 0 ≡ reading_given i p (map v rows)
  no_number ys same past = sym (get_or_past ys i (pos 0) past) ∙ ap (λ zs. slice_index_or zs i (pos 0)) same ∙ reading_is

  pub number_there : (ys : List ℤ) (number : ℤ) → ys ≡ v row → number ≡ slice_index_or ys i (pos 0) → number ≡ reading_given i p (map v rows)
  number_there ys number same is_there = is_there ∙ ap (λ zs. slice_index_or zs i (pos 0)) same ∙ reading_is
