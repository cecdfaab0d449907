use Rattle.std.proofs.Common.{◌≡◌, ◌++◌, true, nat_lt}
use Rattle.std.specs.List.{list_all}
use Rattle.fault_classes.proofs.rules.are_nodes.Given as goal

abbrev pub invariant-loop-id : goal.invariant-loop-id
invariant-loop-id g l = record {
  can : (goal.iterator-loop-id g).can_next l.id-iterator;
  ends : (goal.iterator-loop-id g).is_finite l.id-iterator;
  split : l.set ≡ l.yielded ++ l.id-iterator;
  so_far : list_all (λ x. nat_lt x l.nodes) l.yielded ≡ true;
}
