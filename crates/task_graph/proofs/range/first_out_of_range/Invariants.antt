use Rattle.task_graph.proofs.Ranges.{AllInRange}
use Rattle.task_graph.proofs.range.first_out_of_range.Given as goal

abbrev pub invariant-loop-t : goal.invariant-loop-t
invariant-loop-t g l = AllInRange l.nodes l.tasks l.t
