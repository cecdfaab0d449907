-- Lemmas for callers: the text of a period without a trace, and what holds of each period of a run.
use Rattle.std.proofs.Common.{◌≡◌, ℕ, false, length, ap, append-nil, arith}
use Rattle.std.proofs.lemmas.List.{get_or_past}
use Rattle.node_grid.specs.NodeSet.{has_id}
use Rattle.task_graph.specs.Graph.{GraphView, TaskView, task_at, no_task}
use Rattle.list_scheduler.specs.Copies.{CopyTable, IsCopies, running}
use Rattle.fault_classes.specs.Plan.{Plan}
use Rattle.cluster_periods.specs.Record.{PeriodView}
use Rattle.run_text.specs.TraceText.{period_text}
use Rattle.run_print.specs.Example.{untraced_text, IsIdleFrom}

pub untraced_is : (plan : Plan) (t : PeriodView) → period_text plan false t ≡ untraced_text t
untraced_is plan t = append-nil (untraced_text t)

-- only copies of the tasks of a graph run
pub idle_from : (graph : GraphView) (copies : CopyTable) (tasks : ℕ) → tasks ≡ length graph.tasks → IsCopies graph copies → IsIdleFrom tasks copies
idle_from graph copies tasks many is t q past =
    let none : task_at graph.tasks t ≡ no_task = get_or_past graph.tasks t no_task (omega (arith, many, past)) in
    ap running (is.allowed t q (ap (λ (x : TaskView). has_id x.nodes q) none))
