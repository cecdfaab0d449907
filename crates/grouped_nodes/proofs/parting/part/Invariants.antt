use Rattle.grouped_nodes.proofs.PartedBeliefs.{AreParted}
use Rattle.grouped_nodes.proofs.parting.part.Given as goal

abbrev pub invariant-loop-i : goal.invariant-loop-i
invariant-loop-i g l = AreParted l.before l.groups l.fn.beliefs l.i l.beliefs
