use Rattle.drawn_scenarios.proofs.Gathered.{GoesOver}
use Rattle.drawn_scenarios.proofs.lines.group.Given as goal

abbrev pub invariant-loop-other : goal.invariant-loop-other
invariant-loop-other l = GoesOver l.numbers.items l.left l.nodes l.node l.other l.mask
