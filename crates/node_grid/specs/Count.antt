-- How many elements of a list pass a test, and lists without repeats.
use Rattle.std.specs.Prelude.{◌≡◌, ℕ, ◌+◌, Bool, true, false, List, [], ◌∷◌}
use Rattle.node_grid.specs.NodeSet.{has_id}

-- 1 for what holds, 0 for what doesn't
abbrev pub bit : Bool → ℕ
bit true = 1
bit false = 0

-- how many elements pass the test
abbrev pub count : {X : Type 0} → (X → Bool) → List X → ℕ
count test [] = 0
count test (x ∷ xs) = bit (test x) + count test xs

-- no number stands twice
abbrev pub Distinct : List ℕ → Type 0
Distinct [] = Unit {0}
Distinct (x ∷ xs) = (has_id xs x ≡ false) × Distinct xs
