use Rattle.std.proofs.Common.{arith, lit<}
use Rattle.task_graph.proofs.range.first_out_of_range.Goals as goal

pub loop-t-init : goal.loop-t-init
loop-t-init g c = λ u low. absurd (omega (arith, low))

pub bounds-tasks-t : goal.bounds-tasks-t
bounds-tasks-t g c = c.loop-t-test.true

pub fits-requires : goal.fits-requires
fits-requires g c = lit< tt

pub loop-t-smaller : goal.loop-t-smaller
loop-t-smaller g c = omega (arith, c.loop-t-test.true)
