use Rattle.std.proofs.Common.{sym, ◌∙◌, arith, lit<}
use Rattle.std.proofs.lemmas.Bool.{both_ways}
use Rattle.task_graph.specs.GraphLaws.{cyclic_within, is_cyclic-finds, is_cyclic-tells, few_tasks}
use Rattle.task_graph.proofs.Closure.{bit_test}
use Rattle.task_graph.proofs.cycles.first_cyclic.Goals as goal

pub returns-then-masks-t-eq1 : goal.returns-then-masks-t-eq1
returns-then-masks-t-eq1 g c =
    let t = c.loop-t.t in
    let e = c.close.ensures t t c.loop-t-test.true c.loop-t-test.true in
    record {
      holds = is_cyclic-tells c.args.tasks.now t (sym e ∙ bit_test _ _ c.if-masks-t-eq1.true);
      least = λ u l is. both_ways _ (c.loop-t.invariant u l) (is_cyclic-finds c.args.tasks.now u is);
    }

pub returns : goal.returns
returns g c t is = let l = cyclic_within c.args.tasks.now t is in both_ways _ (c.loop-t.invariant t (omega arith)) (is_cyclic-finds c.args.tasks.now t is)

pub predecessors-masks-requires : goal.predecessors-masks-requires
predecessors-masks-requires g c = (lit< tt, c.requires)

pub close-requires : goal.close-requires
close-requires g c = (lit< tt, (c.requires, c.predecessors-masks.ensures))

pub offset_bounds-masks-t : goal.offset_bounds-masks-t
offset_bounds-masks-t g c = omega (arith, c.loop-t-test.true, few_tasks c.args.nodes c.args.tasks.now c.requires)

pub bounds-masks-t : goal.bounds-masks-t
bounds-masks-t g c = omega (arith, c.loop-t-test.true, few_tasks c.args.nodes c.args.tasks.now c.requires)

pub overflow_cast-t : goal.overflow_cast-t
overflow_cast-t g c = omega (arith, c.loop-t-test.true, few_tasks c.args.nodes c.args.tasks.now c.requires)

pub overflow_shr-masks : goal.overflow_shr-masks
overflow_shr-masks g c = omega (arith, c.loop-t-test.true, few_tasks c.args.nodes c.args.tasks.now c.requires)

pub overflow_cast-result : goal.overflow_cast-result
overflow_cast-result g c = omega (arith, c.loop-t-test.true, few_tasks c.args.nodes c.args.tasks.now c.requires)

pub loop-t-init : goal.loop-t-init
loop-t-init g c = λ u low. absurd (omega (arith, low))

pub loop-t-smaller : goal.loop-t-smaller
loop-t-smaller g c = omega (arith, c.loop-t-test.true)
