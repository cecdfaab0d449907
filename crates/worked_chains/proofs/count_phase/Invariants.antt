use Rattle.std.proofs.Common.{◌≡◌, ◌++◌, length}
use Rattle.worked_chains.proofs.count_phase.Given as goal

abbrev pub invariant-loop-commander : goal.invariant-loop-commander
invariant-loop-commander l = record {
  can : (goal.iterator-loop-commander).can_next l.commander-iterator;
  ends : (goal.iterator-loop-commander).is_finite l.commander-iterator;
  split : l.nodes.members ≡ l.yielded ++ l.commander-iterator;
  room : length l.work ≡ 832;
}
