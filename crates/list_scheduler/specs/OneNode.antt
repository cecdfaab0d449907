-- One node's part of completion, and the verdicts as a list.
use Rattle.std.specs.Prelude.{ℕ, ◌==◌, List, map, if◌then◌else◌}
use Rattle.node_grid.specs.NodeSet.{ids_below}
use Rattle.omh_paths.specs.declared.wrapped.Wrapped.{Wrapped}
use Rattle.task_graph.specs.Graph.{GraphView}
use Rattle.list_scheduler.specs.declared.copies.CopyState.{CopyState}
use Rattle.list_scheduler.specs.declared.schedule.Verdict.{Verdict}
use Rattle.list_scheduler.specs.Copies.{CopyTable, copy_at, works}
use Rattle.list_scheduler.specs.Schedule.{completed_at, verdict}

-- where one member's claim completes its copy
abbrev pub completed_by : GraphView → ℕ → CopyTable → Wrapped ℕ → ℕ → ℕ → CopyState
completed_by graph node copies claim t q = if q == node then completed_at graph t (copy_at copies t q) (works copies q) claim else copy_at copies t q

-- the verdict on each node, node 0 first
abbrev pub verdicts : ℕ → GraphView → List ℕ → CopyTable → List (Wrapped ℕ) → List Verdict
verdicts capacity graph members copies settled = map (verdict graph members copies settled) (ids_below capacity)
