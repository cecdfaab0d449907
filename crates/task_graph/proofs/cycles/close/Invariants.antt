use Rattle.std.proofs.Common.{◌≡◌, length}
use Rattle.task_graph.specs.Reach.{AreReached}
use Rattle.task_graph.proofs.Closure.{AreReachedTo, IsThrough}
use Rattle.task_graph.proofs.cycles.close.Given as goal

abbrev pub invariant-loop-k : goal.invariant-loop-k
invariant-loop-k g l = AreReached l.tasks l.k l.masks × (length l.masks ≡ 32)

abbrev pub invariant-loop-t : goal.invariant-loop-t
invariant-loop-t g l = record {
  masks : AreReachedTo l.tasks l.k l.t l.masks;
  through : IsThrough l.tasks l.k l.through;
  many : length l.masks ≡ 32;
}
