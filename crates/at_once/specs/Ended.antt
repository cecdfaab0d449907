-- Who stays Cold through a period keeps nothing of what it kept.
use Rattle.std.specs.Prelude.{◌≡◌, ◌<◌, ◌≤◌, ℕ, true, false, List, length, replicate, None}
use Rattle.node_grid.specs.NodeSet.{has_id}
use Rattle.at_once.specs.declared.keeping.Keeping.{Keeping}
use Rattle.at_once.specs.Kept.{notes_at, of_node, no_longer}

-- node i keeps nothing that it kept
pub record IsForgotten {N : ℕ} (i : ℕ) (k l : Keeping N) : Type 0 where
  pub notes : notes_at l.notes i ≡ no_longer N (notes_at k.notes i)
  pub votes : of_node l.votes i ≡ replicate 8 None
  pub owns : of_node l.owns i ≡ replicate 8 None

-- it keeps all
pub record IsUnchanged {N : ℕ} (i : ℕ) (k l : Keeping N) : Type 0 where
  pub notes : notes_at l.notes i ≡ notes_at k.notes i
  pub votes : of_node l.votes i ≡ of_node k.votes i
  pub owns : of_node l.owns i ≡ of_node k.owns i

-- of the nodes below i those that aren't awake have forgotten, and no other has
pub record AreForgetting {N : ℕ} (awake : List ℕ) (k : Keeping N) (i : ℕ) (l : Keeping N) : Type 0 where
  pub many : length l.notes ≡ N
  pub cold : (j : ℕ) → j < i → has_id awake j ≡ false → IsForgotten j k l
  pub others : (j : ℕ) → has_id awake j ≡ true → IsUnchanged j k l
  pub rest : (j : ℕ) → i ≤ j → IsUnchanged j k l
