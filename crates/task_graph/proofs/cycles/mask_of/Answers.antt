use Rattle.std.proofs.Common.{refl, arith}
use Rattle.task_graph.proofs.Ranges.{below_at}
use Rattle.task_graph.proofs.Closure.{mask_more}
use Rattle.task_graph.proofs.cycles.mask_of.Goals as goal

pub loop-t-preserved : goal.loop-t-preserved
loop-t-preserved c = mask_more c.args.tasks.now c.loop-t.mask c.loop-t.t-index _ (omega arith) refl (below_at 32 c.args.tasks.now c.loop-t.t-index c.requires (omega arith)) c.loop-t.invariant
