-- Which copies may run.
use Rattle.std.proofs.Common.{◌≡◌, ◌≤◌, ℕ, None, length, ap, arith}
use Rattle.std.proofs.lemmas.List.{get_or_past}
use Rattle.node_grid.specs.NodeSet.{has_id}
use Rattle.task_graph.specs.Graph.{GraphView, TaskView, task_at, no_task}
use Rattle.list_scheduler.specs.Copies.{CopyTable, IsCopies, copy_at, running}

-- no copy of a task that there isn't runs
pub idle_past : (graph : GraphView) (copies : CopyTable) → IsCopies graph copies → (t q : ℕ) → length graph.tasks ≤ t → running (copy_at copies t q) ≡ None
idle_past graph copies is t q past =
    let none : task_at graph.tasks t ≡ no_task = get_or_past graph.tasks t no_task (omega (arith, past)) in
    ap running (is.allowed t q (ap (λ (x : TaskView). has_id x.nodes q) none))
