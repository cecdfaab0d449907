-- The copies of tasks on nodes, as a table of 32 tasks by a capacity of nodes.
use Rattle.std.specs.Prelude.{◌≡◌, ℕ, ◌<◌, ◌≤◌, Bool, true, false, ◌&&◌, ◌==◌, List, [], ◌∷◌, map, Option, None, Some, if◌then◌else◌, slice_index_or}
use Rattle.node_grid.specs.NodeSet.{ids_below, has_id}
use Rattle.task_graph.specs.Graph.{GraphView, task_at, most_tasks}
use Rattle.list_scheduler.specs.declared.copies.CopyState.{CopyState}
use Rattle.list_scheduler.specs.declared.copies.CopyState.TheVariants.{Idle, Running, Passed}

-- task by task the copies of the nodes
abbrev pub CopyTable : Type 0
CopyTable = List (List CopyState)

-- the copy of task t on node q; outside the table all is idle
abbrev pub copy_at : CopyTable → ℕ → ℕ → CopyState
copy_at copies t q = slice_index_or (slice_index_or copies t []) q Idle

-- the table whose copies a function gives
unfoldable pub table : ℕ → (ℕ → ℕ → CopyState) → CopyTable
table capacity f = map (λ t. map (f t) (ids_below capacity)) (ids_below most_tasks)

-- a table of this capacity, as each value of the code's type is
abbrev pub IsTable : ℕ → CopyTable → Type 0
IsTable capacity copies = copies ≡ table capacity (copy_at copies)

-- the copies with one of them changed
abbrev pub with_copy : CopyTable → ℕ → ℕ → CopyState → ℕ → ℕ → CopyState
with_copy copies task node state t q = if (t == task) && (q == node) then state else copy_at copies t q

abbrev pub is_passed : CopyState → Bool
is_passed Passed = true
is_passed _ = false

abbrev pub is_idle : CopyState → Bool
is_idle Idle = true
is_idle _ = false

-- since how many periods a copy runs, the present one among them
abbrev pub running : CopyState → Option ℕ
running (Running e) = Some e
running _ = None

-- task t and the e of its running copy, or else the rest
abbrev pub at_work : ℕ → Option ℕ → Option (ℕ × ℕ) → Option (ℕ × ℕ)
at_work t None rest = rest
at_work t (Some e) rest = Some (t, e)

-- the first of these tasks that runs on node q
abbrev pub works_among : CopyTable → ℕ → List ℕ → Option (ℕ × ℕ)
works_among copies q [] = None
works_among copies q (t ∷ ts) = at_work t (running (copy_at copies t q)) (works_among copies q ts)

-- the least task that runs on node q, with its e
unfoldable pub works : CopyTable → ℕ → Option (ℕ × ℕ)
works copies q = works_among copies q (ids_below most_tasks)

-- copies as an agreed state may have them, but for what is said of non-members: a node has copies of its tasks
-- alone, a running copy's e is from 1 to the task's greatest run time, and a node has at most one running copy
pub record IsCopies (graph : GraphView) (copies : CopyTable) : Type 0 where
  pub allowed : (t q : ℕ) → has_id (task_at graph.tasks t).nodes q ≡ false → copy_at copies t q ≡ Idle
  pub early : (t q e : ℕ) → copy_at copies t q ≡ Running e → (0 < e) × (e ≤ (task_at graph.tasks t).max)
  pub one : (t u q e f : ℕ) → copy_at copies t q ≡ Running e → copy_at copies u q ≡ Running f → t ≡ u

-- and no copy runs on a node that isn't a member
abbrev pub MembersRun : List ℕ → CopyTable → Type 0
MembersRun members copies = (t q e : ℕ) → copy_at copies t q ≡ Running e → has_id members q ≡ true
