-- Room for the paths of an exchange.
use Rattle.std.proofs.Common.{ℕ, ◌≡◌, ◌<◌, ◌≤◌, ◌+◌, ◌-◌, List, true, length, ap, arith}
use Rattle.node_grid.specs.NodeSet.{has_id, IsIdSet}
use Rattle.omh_paths.specs.MemberLaws.{Distinct-ids}
use Rattle.omh.proofs.Flats.{few_below}
use Rattle.settled_paths.specs.Levels.{level_at}
use Rattle.settled_paths.specs.Rooms.{Room}
use Rattle.settled_paths.proofs.Places.{level_at-mono}

-- the members' paths are no more than those of all nodes
pub room_for : (capacity rounds a b : ℕ) (members : List ℕ) (view : Room) → record { nodes = a; rounds = b } ≡ view → rounds ≡ view.rounds → IsIdSet capacity members → ((q : ℕ) → has_id members q ≡ true → q < view.nodes)
    → (level_at (length members - 1) (rounds + 1) ≤ level_at (a - 1) (b + 1)) × (level_at (length members - 1) rounds ≤ level_at (a - 1) b) × (rounds ≡ b)
room_for capacity rounds a b members view is r ids within =
    let n : a ≡ view.nodes = ap (λ (v : Room). v.nodes) is in
    let m : b ≡ view.rounds = ap (λ (v : Room). v.rounds) is in
    let few = few_below view.nodes members (Distinct-ids capacity members ids) within in
    let same : rounds ≡ b = omega arith in
    let low : length members - 1 ≤ a - 1 = omega (arith, few) in (
      omega (arith, level_at-mono (length members - 1) (a - 1) (rounds + 1) low, ap (λ (k : ℕ). level_at (a - 1) (k + 1)) same),
      omega (arith, level_at-mono (length members - 1) (a - 1) rounds low, ap (λ (k : ℕ). level_at (a - 1) k) same),
      same,
    )
