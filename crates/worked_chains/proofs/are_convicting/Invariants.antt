use Rattle.worked_chains.proofs.are_convicting.Given as goal

abbrev pub invariant-loop-i : goal.invariant-loop-i
invariant-loop-i l = record {
  can : (goal.iterator-loop-i).can_next l.i-iterator;
  ends : (goal.iterator-loop-i).is_finite l.i-iterator;
}
