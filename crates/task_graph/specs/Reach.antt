-- A test for chains of predecessors, after Floyd and Warshall.
use Rattle.std.specs.Prelude.{◌≡◌, ℕ, zero, suc, ◌<◌, Bool, ◌&&◌, ◌||◌, ◌==◌, List, length, slice_index}
use Rattle.std.specs.Int.{bit_at}
use Rattle.node_grid.specs.NodeSet.{has_id}
use Rattle.task_graph.specs.Graph.{TaskView, task_at}

-- whether t comes after u by a chain whose inner tasks all lie below k
abbrev pub reaches : List TaskView → ℕ → ℕ → ℕ → Bool
reaches tasks zero t u = has_id (task_at tasks t).after u
reaches tasks (suc k) t u = reaches tasks k t u || (reaches tasks k t k && reaches tasks k k u)

-- whether t comes after itself
abbrev pub is_cyclic : List TaskView → ℕ → Bool
is_cyclic tasks t = reaches tasks (length tasks) t t

-- whether bit u of a mask is set
abbrev pub has_bit : ℕ → ℕ → Bool
has_bit mask u = bit_at mask u == 1

-- the mask at t has the tasks that t reaches so
abbrev pub AreReached : List TaskView → ℕ → List ℕ → Type 0
AreReached tasks k masks = (t u : ℕ) → t < length tasks → u < length tasks → has_bit (slice_index masks t) u ≡ reaches tasks k t u
