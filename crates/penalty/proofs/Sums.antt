-- Sums over the numbers below a bound, one number further.
use Rattle.std.proofs.Common.{◌≡◌, ℕ, suc, ◌+◌, [], ◌∷◌, ◌++◌, ap, ◌∙◌, arith}
use Rattle.std.specs.List.{sum_by}
use Rattle.std.proofs.lemmas.List.Sums.{sum_by-append, sum_by-cons}
use Rattle.node_grid.specs.NodeSet.{ids_below}
use Rattle.node_grid.specs.ListFacts.{range_next}

pub sum_by-ids_more : (f : ℕ → ℕ) (n : ℕ) → sum_by f (ids_below (n + 1)) ≡ sum_by f (ids_below n) + f n
sum_by-ids_more f n =
    let next : n + 1 ≡ suc n = omega arith in
    let last : 0 + n ≡ n = omega arith in
    let one : sum_by f (n ∷ []) ≡ f n = sum_by-cons f n [] ∙ omega arith in
    ap (λ k. sum_by f (ids_below k)) next ∙ ap (sum_by f) (range_next 0 n ∙ ap (λ x. ids_below n ++ x ∷ []) last)
    ∙ sum_by-append f (ids_below n) (n ∷ []) ∙ ap (λ x. sum_by f (ids_below n) + x) one
