-- What a loop over tasks or members knows of ranges.
use Rattle.std.proofs.Common.{◌≡◌, ℕ, zero, suc, ◌<◌, ◌≤◌, true, false, List, [], ◌∷◌, ◌++◌, length, get_or, refl, ◌∙◌, arith}
use Rattle.std.specs.Prelude.{nat_lt}
use Rattle.std.proofs.lemmas.Bool.{both_ways, and_parts, lt-ltb, le-ltb, ltb-true}
use Rattle.std.proofs.lemmas.List.Folds.{list_all-append}
use Rattle.task_graph.specs.Graph.{TaskView, task_at, all_below, is_in_range, IsOut, IsLeast}
use Rattle.std.proofs.Math.Bool.{and-false}

pub below_and_one : (n : ℕ) (xs : List ℕ) (x : ℕ) → all_below n xs ≡ true → x < n → all_below n (xs ++ x ∷ []) ≡ true
below_and_one n xs x h l = list_all-append (λ y. nat_lt y n) xs (x ∷ []) ∙ rw (h, lt-ltb x n l) refl

pub one_above : (n : ℕ) (xs : List ℕ) (x : ℕ) (rest : List ℕ) → n ≤ x → all_below n (xs ++ x ∷ rest) ≡ false
one_above n xs x rest l = list_all-append (λ y. nat_lt y n) xs (x ∷ rest) ∙ rw (le-ltb x n l) (and-false (all_below n xs))

-- the tasks below t are in range
abbrev pub AllInRange : ℕ → List TaskView → ℕ → Type 0
AllInRange nodes tasks t = (u : ℕ) → u < t → is_in_range nodes (length tasks) u (task_at tasks u) ≡ true

pub first_out : (nodes : ℕ) (tasks : List TaskView) (t : ℕ) → AllInRange nodes tasks t → t < length tasks → is_in_range nodes (length tasks) t (task_at tasks t) ≡ false → IsLeast (IsOut nodes tasks) t
first_out nodes tasks t before l out = record { holds = (l, out); least = λ u below is. both_ways _ is.1 (before u below) }

pub none_out : (nodes : ℕ) (tasks : List TaskView) → AllInRange nodes tasks (length tasks) → (t : ℕ) → ¬ IsOut nodes tasks t
none_out nodes tasks all t is = both_ways _ is.1 (all t is.0)

-- a number of a list that lies below n
pub below_at : (n : ℕ) (xs : List ℕ) (i : ℕ) → all_below n xs ≡ true → i < length xs → get_or xs i 0 < n
below_at n [] i h l = absurd (omega arith)
below_at n (x ∷ xs) zero h l = ltb-true x n (and_parts _ _ h).0
below_at n (x ∷ xs) (suc i) h l = below_at n xs i (and_parts _ _ h).1 (omega arith)

-- what lies below a lesser bound
pub below_more : (m n : ℕ) (xs : List ℕ) → m ≤ n → all_below m xs ≡ true → all_below n xs ≡ true
below_more m n [] l h = refl
below_more m n (x ∷ xs) l h =
    let a = and_parts _ _ h in
    let low = ltb-true x m a.0 in
    let first : nat_lt x n ≡ true = lt-ltb x n (omega arith) in
    rw (first, below_more m n xs l a.1) refl
