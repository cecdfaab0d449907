-- A period task by task: what becomes of the copies of one task, and which nodes start it.
use Rattle.std.specs.Prelude.{ℕ, Bool, ◌==◌, ◌&&◌, List, if◌then◌else◌}
use Rattle.node_grid.specs.NodeSet.{has_id}
use Rattle.omh_paths.specs.declared.wrapped.Wrapped.{Wrapped}
use Rattle.task_graph.specs.Graph.{GraphView, task_at}
use Rattle.list_scheduler.specs.declared.copies.CopyState.{CopyState}
use Rattle.list_scheduler.specs.declared.copies.CopyState.TheVariants.{Idle, Running, Passed, Failed}
use Rattle.list_scheduler.specs.Copies.{CopyTable, copy_at, is_idle}
use Rattle.list_scheduler.specs.Schedule.{claim_of, worked_on, left_copy}

-- a member's copy of task t after its claim, where no other copy runs on the node
abbrev pub claimed : GraphView → ℕ → Wrapped ℕ → CopyState → CopyState
claimed graph t c (Running e) = worked_on graph t e c
claimed graph t c Idle = Idle
claimed graph t c Passed = Passed
claimed graph t c Failed = Failed

-- a copy after completion and leaving, by whether its node was a member and is one
abbrev pub moved_state : GraphView → ℕ → Bool → Bool → Wrapped ℕ → CopyState → CopyState
moved_state graph t was is c copy =
    let done = if was then claimed graph t c copy else copy in
    if is then done else left_copy done

abbrev pub moved : GraphView → List ℕ → List ℕ → CopyTable → List (Wrapped ℕ) → ℕ → ℕ → CopyState
moved graph before after copies settled t q =
    moved_state graph t (has_id before q) (has_id after q) (claim_of settled q) (copy_at copies t q)

-- where the copies of one task are moved
abbrev pub moved_task : ℕ → GraphView → List ℕ → List ℕ → CopyTable → List (Wrapped ℕ) → ℕ → ℕ → CopyState
moved_task task graph before after copies settled t q =
    if t == task then moved graph before after copies settled t q else copy_at copies t q

-- whether a node may start task t where all predecessors are finished
abbrev pub is_open : GraphView → CopyTable → ℕ → ℕ → Bool
is_open graph copies q t = has_id (task_at graph.tasks t).nodes q && is_idle (copy_at copies t q)

-- where one task starts on these nodes
abbrev pub started : ℕ → List ℕ → CopyTable → ℕ → ℕ → CopyState
started task nodes copies t q = if (t == task) && has_id nodes q then Running 1 else copy_at copies t q
