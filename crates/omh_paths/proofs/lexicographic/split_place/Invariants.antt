use Rattle.std.proofs.Common.{◌≡◌, ◌++◌, ◌+◌, ◌*◌, length}
use Rattle.omh_paths.proofs.lexicographic.split_place.Given as goal

abbrev pub invariant-loop-node : goal.invariant-loop-node
invariant-loop-node g l = record {
  can : (goal.iterator-loop-node g).can_next l.node-iterator;
  ends : (goal.iterator-loop-node g).is_finite l.node-iterator;
  split : l.set ≡ l.yielded ++ l.node-iterator;
  left : l.index ≡ length l.yielded * l.behind + l.rest;
}
