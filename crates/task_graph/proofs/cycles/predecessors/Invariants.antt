use Rattle.std.proofs.Common.{◌≡◌, ℕ, ◌<◌, length, get_or}
use Rattle.task_graph.specs.Reach.{has_bit, reaches}
use Rattle.task_graph.proofs.cycles.predecessors.Given as goal

abbrev pub invariant-loop-t : goal.invariant-loop-t
invariant-loop-t g l = record {
  masks : (t u : ℕ) → t < l.t → u < length l.tasks → has_bit (get_or l.masks t 0) u ≡ reaches l.tasks 0 t u;
  many : length l.masks ≡ 32;
}
