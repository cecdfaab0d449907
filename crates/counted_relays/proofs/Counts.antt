-- A count of Full members by the sizes of sets.
use Rattle.std.proofs.Common.{ℕ, ◌≡◌, ◌≤◌, ◌+◌, ◌-◌, Bool, true, false, List, [], ◌∷◌, length, sym, ap, ◌∙◌, arith}
use Rattle.node_grid.specs.NodeSet.{has_id, without_id, minus_of}
use Rattle.node_grid.specs.Count.{count}
use Rattle.node_grid.specs.SetFacts.{count_had}
use Rattle.omh_paths.specs.Paths.{outside}
use Rattle.omh_paths.specs.PathLists.{outside-cons, outside_nothing}
use Rattle.counted_relays.specs.Counted.{full_outside}

pub full_count : (members full others idle : List ℕ) (c n k : ℕ) → others ≡ without_id members c → n ≡ length others → idle ≡ minus_of others full → k ≡ length idle
    → n ≡ full_outside members full (c ∷ []) + k
full_count members full others idle c n k others_are n_is idle_are k_is =
    let same : outside members (c ∷ []) ≡ others = outside-cons members c [] ∙ ap (λ (xs : List ℕ). without_id xs c) (outside_nothing members) ∙ sym others_are in
    let counts = ap (count (λ q. has_id full q)) same in
    let had = count_had others full in
    let left = ap length idle_are in
    omega arith
