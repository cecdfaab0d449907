-- Tasks and graphs of tasks: which tasks are in range, and which come after themselves.
use Rattle.std.specs.Prelude.{◌≡◌, ℕ, ◌<◌, ◌≤◌, Bool, true, false, ◌&&◌, nat_lt, nat_le, List, [], ◌∷◌, ◌++◌, length, slice_index_or}
use Rattle.std.specs.List.{list_all}
use Rattle.node_grid.specs.NodeSet.{has_id}

-- a task as clauses see it: the tasks that it directly comes after, the nodes that may run it, how many passed
-- copies finish it, and the bounds of its run time in periods
pub record TaskView : Type 0 where
  pub after : List ℕ
  pub nodes : List ℕ
  pub need : ℕ
  pub min : ℕ
  pub max : ℕ

-- a graph as clauses see it
pub record GraphView : Type 0 where
  pub nodes : ℕ
  pub tasks : List TaskView

abbrev pub no_task : TaskView
no_task = record { after = []; nodes = []; need = 0; min = 0; max = 0 }

-- the task with number t, and no task from the number of tasks on
abbrev pub task_at : List TaskView → ℕ → TaskView
task_at tasks t = slice_index_or tasks t no_task

-- the most tasks that a graph has, and the most periods that a task may run
abbrev pub most_tasks : ℕ
most_tasks = 32

abbrev pub most_periods : ℕ
most_periods = 1024

-- each number is less than the next
abbrev pub is_ascending : List ℕ → Bool
is_ascending [] = true
is_ascending (x ∷ []) = true
is_ascending (x ∷ y ∷ ys) = nat_lt x y && is_ascending (y ∷ ys)

-- each number is below n
abbrev pub all_below : ℕ → List ℕ → Bool
all_below n xs = list_all (λ x. nat_lt x n) xs

-- whether task t of so many is in range, over these nodes
abbrev pub is_in_range : ℕ → ℕ → ℕ → TaskView → Bool
is_in_range nodes count t task =
    nat_lt t most_tasks
    && is_ascending task.after && all_below count task.after
    && nat_lt 0 (length task.nodes) && all_below nodes task.nodes
    && nat_le 1 task.need && nat_le task.need (length task.nodes)
    && nat_le 1 task.min && nat_le task.min task.max && nat_le task.max most_periods

-- a task of the list that isn't in range
abbrev pub IsOut : ℕ → List TaskView → ℕ → Type 0
IsOut nodes tasks t = (t < length tasks) × (is_in_range nodes (length tasks) t (task_at tasks t) ≡ false)

-- each task of the chain comes directly after the next
abbrev pub IsChain : List TaskView → List ℕ → Type 0
IsChain tasks [] = Unit {0}
IsChain tasks (t ∷ []) = Unit {0}
IsChain tasks (t ∷ u ∷ us) = (has_id (task_at tasks t).after u ≡ true) × IsChain tasks (u ∷ us)

-- task t comes after task u by a chain of predecessors
abbrev pub ComesAfter : List TaskView → ℕ → ℕ → Type 0
ComesAfter tasks t u = (between : List ℕ) × IsChain tasks (t ∷ between ++ u ∷ [])

-- a task that comes after itself
abbrev pub IsCyclic : List TaskView → ℕ → Type 0
IsCyclic tasks t = ComesAfter tasks t t

-- t is the least number of which P holds
pub record IsLeast (P : ℕ → Type 0) (t : ℕ) : Type 0 where
  pub holds : P t
  pub least : (u : ℕ) → u < t → ¬ P u

-- tasks that make a graph: each is in range, and none comes after itself
pub record IsTasks (nodes : ℕ) (tasks : List TaskView) : Type 0 where
  pub in_range : (t : ℕ) → ¬ IsOut nodes tasks t
  pub acyclic : (t : ℕ) → ¬ IsCyclic tasks t

-- a graph for a capacity in nodes
pub record IsGraph (capacity : ℕ) (g : GraphView) : Type 0 where
  pub some_nodes : 3 ≤ g.nodes
  pub few_nodes : g.nodes ≤ capacity
  pub tasks : IsTasks g.nodes g.tasks
