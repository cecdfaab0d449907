-- The terms of a majority, laid one behind another.
use Rattle.std.proofs.Common.{ℕ, ◌≡◌, ◌≤◌, ◌+◌, ◌-◌, List, ◌++◌, map, take, drop, length, sym, ap, ◌∙◌, arith}
use Rattle.std.proofs.lemmas.List.{drop-take, drop_at, take_at, take-take, length-take-le}

pub terms_are : {W : Type 0} (term : ℕ → W) (ys : List ℕ) (from end : ℕ) (first work : List W) → end ≡ from + length ys → from ≤ length first → take end work ≡ take from first ++ map term ys
    → take (end - from) (drop from work) ≡ map term ys
terms_are {W} term ys from end first work is within laid =
    let e : from + (end - from) ≡ end = omega arith in
    sym (drop-take from (end - from) work)
    ∙ ap (λ (k : ℕ). drop from (take k work)) e
    ∙ ap (drop from) laid
    ∙ drop_at (take from first) (map term ys) from (length-take-le from first within)

-- what stood in front of them stays
pub fronts_same : {W : Type 0} (term : ℕ → W) (ys : List ℕ) (from end : ℕ) (first work : List W) → end ≡ from + length ys → from ≤ length first → take end work ≡ take from first ++ map term ys
    → take from work ≡ take from first
fronts_same {W} term ys from end first work is within laid =
    sym (take-take from end work (omega (arith, is)))
    ∙ ap (take from) laid
    ∙ take_at (take from first) (map term ys) from (length-take-le from first within)
