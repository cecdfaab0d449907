use Rattle.std.proofs.Common.{sym, arith}
use Rattle.task_graph.proofs.Ascending.{ascends_throughout, falls_at, rises_more}
use Rattle.task_graph.proofs.range.ascends.Goals as goal

pub returns-then-numbers-k : goal.returns-then-numbers-k
returns-then-numbers-k c = falls_at c.args.numbers.now c.loop-k.k (omega arith) (omega arith) c.if-numbers-k.true

pub returns : goal.returns
returns c = sym (ascends_throughout _ (λ j h. c.loop-k.invariant j (omega arith)))

pub loop-k-preserved : goal.loop-k-preserved
loop-k-preserved c = rises_more c.args.numbers.now c.loop-k.k (omega arith) c.loop-k.invariant c.if-numbers-k.false
