use Rattle.std.proofs.Common.{◌≡◌, length, ◌+◌, ◌*◌}
use Rattle.fault_classes.specs.Blocks.{IsNumbered, is_in}
use Rattle.fault_classes.proofs.blocks.blocks_of.Given as goal

abbrev pub invariant-loop-period : goal.invariant-loop-period
invariant-loop-period g l = record {
  long : length l.numbers.items ≡ l.shape.periods * l.shape.nodes;
  numbered : IsNumbered (is_in l.shape.nodes l.senders) (l.period * l.shape.nodes) l.numbers.items l.last;
}

abbrev pub invariant-loop-node : goal.invariant-loop-node
invariant-loop-node g l = record {
  long : length l.numbers.items ≡ l.shape.periods * l.shape.nodes;
  numbered : IsNumbered (is_in l.shape.nodes l.senders) (l.period * l.shape.nodes + l.node) l.numbers.items l.last;
}
