use Rattle.grouped_nodes.proofs.GroupSteps.{AreStepped}
use Rattle.grouped_nodes.proofs.stepping.step.Given as goal

abbrev pub invariant-loop-first : goal.invariant-loop-first
invariant-loop-first g l = AreStepped l.config l.period l.groups l.beliefs l.fn.states l.first l.states
