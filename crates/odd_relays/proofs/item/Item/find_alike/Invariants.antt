use Rattle.std.proofs.Common.{◌≡◌, ◌++◌}
use Rattle.odd_relays.proofs.item.Item.find_alike.Given as goal

abbrev pub invariant-loop-j : goal.invariant-loop-j
invariant-loop-j g l = record {
  can : (goal.iterator-loop-j g).can_next l.j-iterator;
  ends : (goal.iterator-loop-j g).is_finite l.j-iterator;
  split : l.nodes ≡ l.yielded ++ l.j-iterator;
}
