-- Why tasks make no graph.
use Rattle.std.specs.Prelude.{ℕ, List}
use Rattle.task_graph.specs.declared.graph.GraphError.{GraphError}
use Rattle.task_graph.specs.declared.graph.GraphError.TheVariants.{Range, Cycle}
use Rattle.task_graph.specs.Graph.{TaskView, IsOut, IsCyclic, IsLeast}

-- the least task that is out of range, or, where none is, the least one that comes after itself
abbrev pub IsRefusal : ℕ → List TaskView → GraphError → Type 0
IsRefusal nodes tasks (Range t) = IsLeast (IsOut nodes tasks) t
IsRefusal nodes tasks (Cycle t) = ((u : ℕ) → ¬ IsOut nodes tasks u) × IsLeast (IsCyclic tasks) t
