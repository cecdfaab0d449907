use Rattle.std.proofs.Common.{◌≡◌, ◌++◌, map}
use Rattle.clock_skew.specs.Clock.{number_at}
use Rattle.scenario.proofs.rules.are_close_among.Given as goal

abbrev pub invariant-loop-node : goal.invariant-loop-node
invariant-loop-node l = record {
  can : goal.iterator-loop-node.can_next l.node-iterator;
  ends : goal.iterator-loop-node.is_finite l.node-iterator;
  split : l.group ≡ l.yielded ++ l.node-iterator;
  values : l.numbers.items ≡ map (number_at l.row) l.yielded;
}
