use Rattle.std.proofs.Common.{◌≡◌, ℕ, ◌<◌, false}
use Rattle.task_graph.specs.Reach.{is_cyclic}
use Rattle.task_graph.proofs.cycles.first_cyclic.Given as goal

abbrev pub invariant-loop-t : goal.invariant-loop-t
invariant-loop-t g l = (u : ℕ) → u < l.t → is_cyclic l.tasks u ≡ false
