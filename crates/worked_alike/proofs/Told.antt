-- Who a lie is told to.
use Rattle.std.proofs.Common.{ℕ, ◌≡◌, ◌<◌, ◌==◌, Bool, false, not, List, [], ◌∷◌, length, refl, arith}
use Rattle.std.specs.Prelude.{All}
use Rattle.std.specs.Bool.{IsTrue}
use Rattle.std.proofs.lemmas.Bool.{both_ways}
use Rattle.std.proofs.lemmas.List.Elements.{All-filter}
use Rattle.node_grid.specs.NodeSet.{has_id, ids_below, without_id, minus_of}
use Rattle.node_grid.specs.NodeSetLaws.{All-ids}

pub some_left : (s : List ℕ) (is_empty : Bool) → (s ≡ [] → IsTrue is_empty) → is_empty ≡ false → 0 < length s
some_left [] is_empty h off = absurd (both_ways is_empty off (h refl))
some_left (x ∷ xs) is_empty h off = omega arith

pub all_low : (drawn : List ℕ) (from : ℕ) → All (λ i. i < 12) (without_id (minus_of (ids_below 12) drawn) from)
all_low drawn from =
    All-filter (λ k. not (k == from)) (λ i. i < 12) (minus_of (ids_below 12) drawn)
    (All-filter (λ k. not (has_id drawn k)) (λ i. i < 12) (ids_below 12) (All-ids 12 (ids_below 12) refl))
