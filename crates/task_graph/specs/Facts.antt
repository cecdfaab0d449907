-- Facts that several crates cite.
use Rattle.std.proofs.Common.{ap, false, length, ℕ, ◌≡◌, ◌≤◌}
use Rattle.node_grid.specs.NodeSet.{has_id}
use Rattle.task_graph.specs.Graph.{GraphView, TaskView, task_at}
use Rattle.task_graph.specs.GraphLaws.{task_past}

pub allowed_past : (graph : GraphView) (t q : ℕ) → length graph.tasks ≤ t → has_id (task_at graph.tasks t).nodes q ≡ false
allowed_past graph t q past = ap (λ (x : TaskView). has_id x.nodes q) (task_past graph.tasks t past)
