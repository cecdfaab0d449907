-- A set that has no member besides those of another one is within it.
use Rattle.std.proofs.Common.{ℕ, ◌≡◌, ◌≢◌, Bool, true, ◌==◌, ◌||◌, List, sym, ap, ◌∙◌, ne_eqb}
use Rattle.node_grid.specs.NodeSet.{has_id, with_id}
use Rattle.node_grid.specs.NodeSetLaws.{passes_where}

-- who is in a set with one more member was in it before, or is that member
pub had_before : (n : ℕ) (s : List ℕ) (x k : ℕ) → has_id (with_id n s x) k ≡ true → k ≢ x → has_id s k ≡ true
had_before n s x k on ne = sym (ap (λ (b : Bool). b || has_id s k) (ne_eqb k x ne)) ∙ passes_where (λ j. (j == x) || has_id s j) n k on
