use Rattle.std.proofs.Common.{sym, arith, inl, inr}
use Rattle.std.proofs.lemmas.Bool.{cases_lt}
use Rattle.task_graph.specs.GraphLaws.{few_tasks}
use Rattle.list_scheduler.specs.CopyLaws.{works_first, works_none}
use Rattle.grouped_nodes.proofs.Running.{idle_past}
use Rattle.grouped_nodes.proofs.claim.running_in.Goals as goal

pub returns-in-Running : goal.returns-in-Running
returns-in-Running g c =
    let low = few_tasks _ _ c.len-task-end.ensures.graph.tasks.in_range in
    sym (works_first c.args.copies.now c.args.node c.loop-task.task c.in-Running.periods (omega (arith, c.loop-task-test.true, c.len-task-end.ensures.count, low)) c.loop-task.invariant (sym c.in-Running.ensures.copy))

pub returns : goal.returns
returns g c = sym (works_none c.args.copies.now c.args.node (λ u h. elim (cases_lt u c.len-task-end.result) [
  | inl low ↦ c.loop-task.invariant u (omega (arith, low, c.loop-task-test.false))
  | inr high ↦ idle_past c.args.graph.now c.args.copies.now c.requires.copies u c.args.node (omega (arith, high, c.len-task-end.ensures.count))
]))
