use Rattle.std.proofs.Common.{arith, rules, lit<}
use Rattle.task_graph.specs.GraphLaws.{few_tasks}
use Rattle.list_scheduler.proofs.copies.Copies.move_copy.Goals as goal

pub at-requires : goal.at-requires
at-requires g c =
    let few = few_tasks c.args.graph.now.nodes c.args.graph.now.tasks c.len.ensures.graph.tasks.in_range in
    let task = c.requires.task in
    (search rules, (omega arith, c.requires.node))

pub set-requires : goal.set-requires
set-requires g c =
    let few = few_tasks c.args.graph.now.nodes c.args.graph.now.tasks c.len.ensures.graph.tasks.in_range in
    let task = c.requires.task in
    (search rules, (omega arith, c.requires.node))

pub len-requires : goal.len-requires
len-requires g c = lit< tt
