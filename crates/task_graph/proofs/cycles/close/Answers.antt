use Rattle.std.proofs.Common.{◌∙◌, arith, length-set}
use Rattle.task_graph.specs.GraphLaws.{few_tasks}
use Rattle.task_graph.proofs.Closure.{bit_test, no_bit_test, reached_with, reached_without}
use Rattle.task_graph.proofs.cycles.close.Goals as goal
use Rattle.task_graph.proofs.cycles.close.Goals.{then-masks-t-eq1, else-masks-t-eq1}

pub loop-t-preserved : goal.loop-t-preserved
loop-t-preserved g c =
    let few = few_tasks c.args.nodes c.args.tasks.now c.requires.in_range in
    let i = c.loop-t.invariant in
    elim c.if-masks-t-eq1.branch [
      | then-masks-t-eq1 w ↦ rw w.masks-is (record {
        masks = reached_with c.args.tasks.now c.loop-k.k c.loop-t.t c.loop-t.masks _ c.loop-k-test.true (omega arith) i.masks i.through (bit_test _ _ w.if-masks-t-eq1.true);
        through = i.through;
        many = length-set c.loop-t.masks c.loop-t.t _ ∙ i.many;
      })
      | else-masks-t-eq1 w ↦ rw w.masks-is (record {
        masks = reached_without c.args.tasks.now c.loop-k.k c.loop-t.t c.loop-t.masks c.loop-k-test.true i.masks (no_bit_test _ _ w.if-masks-t-eq1.false);
        through = i.through;
        many = i.many;
      })
    ]

pub offset_bounds-masks-k : goal.offset_bounds-masks-k
offset_bounds-masks-k g c = omega (arith, c.loop-k-test.true, few_tasks c.args.nodes c.args.tasks.now c.requires.in_range)

pub bounds-masks-k : goal.bounds-masks-k
bounds-masks-k g c = omega (arith, c.loop-k-test.true, few_tasks c.args.nodes c.args.tasks.now c.requires.in_range)

pub offset_bounds-masks-t : goal.offset_bounds-masks-t
offset_bounds-masks-t g c = omega (arith, c.loop-t-test.true, few_tasks c.args.nodes c.args.tasks.now c.requires.in_range)

pub bounds-masks-t : goal.bounds-masks-t
bounds-masks-t g c = omega (arith, c.loop-t-test.true, few_tasks c.args.nodes c.args.tasks.now c.requires.in_range)

pub overflow_cast-k : goal.overflow_cast-k
overflow_cast-k g c = omega (arith, c.loop-k-test.true, few_tasks c.args.nodes c.args.tasks.now c.requires.in_range)

pub overflow_shr-masks : goal.overflow_shr-masks
overflow_shr-masks g c = omega (arith, c.loop-k-test.true, few_tasks c.args.nodes c.args.tasks.now c.requires.in_range)

pub offset_bounds-masks-t-then-masks-t-eq1 : goal.offset_bounds-masks-t-then-masks-t-eq1
offset_bounds-masks-t-then-masks-t-eq1 g c = omega (arith, c.loop-t-test.true, few_tasks c.args.nodes c.args.tasks.now c.requires.in_range)

pub bounds-masks-t-then-masks-t-eq1 : goal.bounds-masks-t-then-masks-t-eq1
bounds-masks-t-then-masks-t-eq1 g c = omega (arith, c.loop-t-test.true, few_tasks c.args.nodes c.args.tasks.now c.requires.in_range)

pub bounds-masks-t-then-masks-t-eq1-2 : goal.bounds-masks-t-then-masks-t-eq1-2
bounds-masks-t-then-masks-t-eq1-2 g c = omega (arith, c.loop-t-test.true, few_tasks c.args.nodes c.args.tasks.now c.requires.in_range)

pub loop-t-smaller : goal.loop-t-smaller
loop-t-smaller g c = omega (arith, c.loop-t-test.true)

pub loop-k-smaller : goal.loop-k-smaller
loop-k-smaller g c = omega (arith, c.loop-k-test.true)
