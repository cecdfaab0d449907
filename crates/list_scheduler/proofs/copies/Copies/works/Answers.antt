use Rattle.std.proofs.Common.{sym, arith, rules, lit<}
use Rattle.task_graph.specs.GraphLaws.{few_tasks}
use Rattle.list_scheduler.specs.CopyLaws.{works_first}
use Rattle.list_scheduler.proofs.Completing.{works_within}
use Rattle.list_scheduler.proofs.copies.Copies.works.Goals as goal

pub at-requires : goal.at-requires
at-requires g c =
    let few = few_tasks c.args.graph.now.nodes c.args.graph.now.tasks c.len-t-end.ensures.graph.tasks.in_range in
    let count = c.len-t-end.ensures.count in
    let here = c.loop-t-test.true in
    (search rules, (omega arith, c.requires.node))

pub returns-in-Running : goal.returns-in-Running
returns-in-Running g c =
    let few = few_tasks c.args.graph.now.nodes c.args.graph.now.tasks c.len-t-end.ensures.graph.tasks.in_range in
    let count = c.len-t-end.ensures.count in
    let here = c.loop-t-test.true in
    sym (works_first c.args.self.now c.args.node c.loop-t.t c.in-Running.periods (omega arith) c.loop-t.invariant (sym c.in-Running.ensures.copy))

pub returns : goal.returns
returns g c =
    let count = c.len-t-end.ensures.count in
    let end = c.loop-t-test.false in
    sym (works_within c.args.graph.now c.args.self.now c.args.node c.requires.copies (λ u h. c.loop-t.invariant u (omega arith)))

pub len-t-end-requires : goal.len-t-end-requires
len-t-end-requires g c = lit< tt

pub loop-t-smaller : goal.loop-t-smaller
loop-t-smaller g c = omega (arith, c.loop-t-test.true)
