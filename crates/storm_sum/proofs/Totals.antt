-- Counts and sums over one number more.
use Rattle.std.proofs.Common.{◌≡◌, ℕ, zero, suc, ◌+◌, Bool, not, ◌&&◌, List, [], ◌∷◌, refl, ap, ◌∙◌, arith}
use Rattle.std.specs.List.{range_with_len, sum_by, fold}
use Rattle.node_grid.specs.NodeSet.{ids_below, has_id}
use Rattle.node_grid.specs.Count.{bit, count}
use Rattle.node_grid.specs.NodeSetLaws.{count-range}
use Rattle.storm_sum.specs.Summary.{lost, how_many, total}

pub how_many_more : (f : ℕ → Bool) (n : ℕ) → how_many f (n + 1) ≡ how_many f n + bit (f n)
unfolding how_many
how_many_more f n =
    let e : n + 1 ≡ suc n = omega arith in
    let z : 0 + n ≡ n = omega arith in
    ap (λ (k : ℕ). count f (ids_below k)) e ∙ count-range f 0 n ∙ ap (λ (k : ℕ). count f (ids_below n) + bit (f k)) z

fold_from : (f : ℕ → ℕ) (b : ℕ) (xs : List ℕ) → fold (λ (a x : ℕ). a + f x) b xs ≡ b + sum_by f xs
fold_from f b [] = omega arith
fold_from f b (x ∷ xs) =
    let here = fold_from f (b + f x) xs in
    let there = fold_from f (0 + f x) xs in
    omega arith

sum_range : (f : ℕ → ℕ) (a n : ℕ) → sum_by f (range_with_len a (suc n)) ≡ sum_by f (range_with_len a n) + f (a + n)
sum_range f a zero = let e : a + 0 ≡ a = omega arith in let h : f (a + 0) ≡ f a = ap f e in omega arith
sum_range f a (suc n) =
    let rest = sum_range f (a + 1) n in
    let e : (a + 1) + n ≡ a + suc n = omega arith in
    let h : f ((a + 1) + n) ≡ f (a + suc n) = ap f e in
    let left = fold_from f (0 + f a) (range_with_len (a + 1) (suc n)) in
    let right = fold_from f (0 + f a) (range_with_len (a + 1) n) in
    omega arith

pub total_more : (f : ℕ → ℕ) (n : ℕ) → total f (n + 1) ≡ total f n + f n
unfolding total
total_more f n =
    let e : n + 1 ≡ suc n = omega arith in
    let z : 0 + n ≡ n = omega arith in
    ap (λ (k : ℕ). sum_by f (ids_below k)) e ∙ sum_range f 0 n ∙ ap (λ (k : ℕ). sum_by f (ids_below n) + f k) z

pub lost_more : (n : ℕ) (xs ys : List ℕ) → lost (n + 1) xs ys ≡ lost n xs ys + bit (has_id xs n && not (has_id ys n))
unfolding lost
lost_more n xs ys =
    let e : n + 1 ≡ suc n = omega arith in
    let z : 0 + n ≡ n = omega arith in
    ap (λ (k : ℕ). count (λ j. has_id xs j && not (has_id ys j)) (ids_below k)) e ∙ count-range (λ j. has_id xs j && not (has_id ys j)) 0 n
    ∙ ap (λ (k : ℕ). count (λ j. has_id xs j && not (has_id ys j)) (ids_below n) + bit (has_id xs k && not (has_id ys k))) z

pub lost_none : (xs ys : List ℕ) → lost 0 xs ys ≡ 0
unfolding lost
lost_none xs ys = refl

pub how_many_none : (f : ℕ → Bool) → how_many f 0 ≡ 0
unfolding how_many
how_many_none f = refl

pub total_none : (f : ℕ → ℕ) → total f 0 ≡ 0
unfolding total
total_none f = refl
