use Rattle.std.proofs.Common.{◌≡◌, ℕ, ◌<◌, length, get_or, List, true, ap, sym, subst, ◌∙◌, arith, rules, lit<}
use Rattle.std.specs.List.{list_all}
use Rattle.task_graph.specs.Graph.{TaskView, task_at}
use Rattle.list_scheduler.specs.Schedule.{finished}
use Rattle.list_scheduler.proofs.Picking.{all_more, all_taken, before_listed}
use Rattle.list_scheduler.proofs.copies.Copies.is_ready.Goals as goal

pub finished-requires : goal.finished-requires
finished-requires g c =
    let e : c.deref-before-items.result.now ≡ (task_at c.args.graph.now.tasks c.args.t).after = c.deref-before-items.ensures.value ∙ ap (λ (x : TaskView). x.after) (c.behind-graph.view_is ∙ c.task.ensures.task) in
    let l : c.loop-before.before-index < length (task_at c.args.graph.now.tasks c.args.t).after = subst (λ (xs : List ℕ). c.loop-before.before-index < length xs) e c.loop-before-test.true in
    let b = before_listed g.row.N c.args.graph.now c.args.t c.loop-before.before-index c.task.ensures.graph c.requires.task l in
    (search rules, (omega arith, subst (λ (xs : List ℕ). get_or xs c.loop-before.before-index 0 < length c.args.graph.now.tasks) (sym e) b))

pub loop-before-preserved : goal.loop-before-preserved
loop-before-preserved g c = all_more (finished c.args.graph.now c.args.self.now) c.deref-before-items.result.now c.loop-before.before-index (omega arith) c.loop-before.invariant (sym c.finished.ensures ∙ c.if-not-finished.false)

pub returns : goal.returns
returns g c =
    let e : c.deref-before-items.result.now ≡ (task_at c.args.graph.now.tasks c.args.t).after = c.deref-before-items.ensures.value ∙ ap (λ (x : TaskView). x.after) (c.behind-graph.view_is ∙ c.task.ensures.task) in
    let all : list_all (finished c.args.graph.now c.args.self.now) c.deref-before-items.result.now ≡ true = all_taken (finished c.args.graph.now c.args.self.now) c.deref-before-items.result.now c.loop-before.before-index (omega arith) c.loop-before.invariant in
    sym (sym (ap (list_all (finished c.args.graph.now c.args.self.now)) e) ∙ all)

pub task-requires : goal.task-requires
task-requires g c = (lit< tt, (lit< tt, c.requires.task))

pub bounds-before-items-before-index : goal.bounds-before-items-before-index
bounds-before-items-before-index g c = c.loop-before-test.true

pub loop-before-smaller : goal.loop-before-smaller
loop-before-smaller g c = omega (arith, c.loop-before-test.true)
