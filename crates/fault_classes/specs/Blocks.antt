-- Which block of cells each sender of each period has. The senders are counted through, those of period 0 first.
use Rattle.std.specs.Prelude.{◌≡◌, ◌≢◌, ℕ, ◌*◌, ◌/◌, ◌%◌, ◌<◌, ◌≤◌, Bool, true, List, [], length, slice_index}
use Rattle.std.specs.List.{slice_index_or}
use Rattle.node_grid.specs.NodeSet.{has_id}
use Rattle.fault_classes.specs.declared.blocks.Blocks.{Blocks}

-- whether a sender is in the set of its period
abbrev pub is_in : ℕ → List (List ℕ) → ℕ → Bool
is_in nodes sets k = has_id (slice_index_or sets (k / nodes) []) (k % nodes)

-- of the first n senders each that is wanted has a block of its own, and none of them has block 0
pub record IsNumbered (wanted : ℕ → Bool) (n : ℕ) (blocks : List ℕ) (last : ℕ) : Type 0 where
  pub few : last ≤ n
  pub within : (k : ℕ) → slice_index blocks k ≤ last
  pub own : (j k : ℕ) → slice_index blocks j ≢ 0 → slice_index blocks j ≡ slice_index blocks k → j ≡ k
  pub given : (k : ℕ) → k < n → wanted k ≡ true → slice_index blocks k ≢ 0

-- the same of all senders of all periods
pub record AreBlocks (wanted : ℕ → Bool) (nodes periods : ℕ) (blocks : Blocks) : Type 0 where
  pub long : length blocks.numbers.items ≡ periods * nodes
  pub numbered : IsNumbered wanted (periods * nodes) blocks.numbers.items blocks.last
