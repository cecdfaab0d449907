use Rattle.std.proofs.Common.{◌≡◌, ◌++◌, true}
use Rattle.task_graph.specs.Graph.{all_below}
use Rattle.task_graph.proofs.range.members_below.Given as goal

abbrev pub invariant-loop-id : goal.invariant-loop-id
invariant-loop-id g l = record {
  can : (goal.iterator-loop-id g).can_next l.id-iterator;
  ends : (goal.iterator-loop-id g).is_finite l.id-iterator;
  split : l.members ≡ l.yielded ++ l.id-iterator;
  below : all_below l.nodes l.yielded ≡ true;
}
