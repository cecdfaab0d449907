-- Who leaves, told from who stays.
use Rattle.std.proofs.Common.{◌≡◌, ℕ, Bool, true, false, not, ◌&&◌, List, refl}
use Rattle.node_grid.specs.NodeSet.{has_id}
use Rattle.penalty.specs.declared.Policy.{Policy}
use Rattle.membership.specs.Members.{stays, leaves}

pub leaves-not_stays : (policy : Policy) (members : List ℕ) (count times : ℕ → ℕ) (q : ℕ) → (has_id members q && not (stays policy members count times q)) ≡ leaves policy members count q
leaves-not_stays policy members count times q = by (has_id members q) refl
  where
    by : (b : Bool) → has_id members q ≡ b → (has_id members q && not (stays policy members count times q)) ≡ leaves policy members count q
    by true on = rw on refl
    by false off = rw off refl
