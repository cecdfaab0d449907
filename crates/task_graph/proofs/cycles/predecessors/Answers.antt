use Rattle.std.proofs.Common.{◌≡◌, ◌≢◌, ℕ, ◌<◌, List, length, get_or, ap, ◌∙◌, inl, inr, arith, get_or-set_same, get_or-set_other, length-set}
use Rattle.std.proofs.lemmas.Bool.{cases_lt}
use Rattle.std.proofs.lemmas.List.{get_or_default}
use Rattle.node_grid.specs.NodeSet.{has_id}
use Rattle.task_graph.specs.Graph.{TaskView, no_task, task_at}
use Rattle.task_graph.specs.GraphLaws.{task_ranged, few_tasks}
use Rattle.task_graph.proofs.Ranges.{below_more}
use Rattle.task_graph.proofs.cycles.predecessors.Goals as goal

-- what the code reads of a task, at any default
read_task : (tasks : List TaskView) (t : ℕ) (x : TaskView) (after : List ℕ) → t < length tasks → x ≡ get_or tasks t x → after ≡ x.after → after ≡ (task_at tasks t).after
read_task tasks t x after l i e = e ∙ ap (λ (y : TaskView). y.after) (i ∙ get_or_default tasks t x no_task l)

pub mask_of-requires : goal.mask_of-requires
mask_of-requires g c =
    let few = few_tasks c.args.nodes c.args.tasks.now c.requires in
    let r = task_ranged c.args.nodes c.args.tasks.now c.requires c.loop-t.t c.loop-t-test.true in
    let v : c.task.inside.after.items ≡ c.index-tasks-t.result.after = ap (λ (y : TaskView). y.after) c.task.view_is in
    let e = read_task c.args.tasks.now c.loop-t.t c.index-tasks-t.result c.deref.result.now c.loop-t-test.true c.index-tasks-t.is (c.deref.ensures.value ∙ v) in
    rw e (below_more (length c.args.tasks.now) 32 _ few r.below)

pub loop-t-preserved : goal.loop-t-preserved
loop-t-preserved g c =
    let few = few_tasks c.args.nodes c.args.tasks.now c.requires in
    let many = c.loop-t.invariant.many in
    record {
      masks = λ t u h l. elim (cases_lt t c.loop-t.t) [
        | inl before ↦ let ne : t ≢ c.loop-t.t = omega arith in rw (get_or-set_other c.loop-t.masks c.loop-t.t t c.mask_of.result 0 ne) (c.loop-t.invariant.masks t u before l)
        | inr at ↦
            let d : t ≡ c.loop-t.t = omega arith in
            let v : c.task.inside.after.items ≡ c.index-tasks-t.result.after = ap (λ (y : TaskView). y.after) c.task.view_is in
            let e = read_task c.args.tasks.now c.loop-t.t c.index-tasks-t.result c.deref.result.now c.loop-t-test.true c.index-tasks-t.is (c.deref.ensures.value ∙ v) in
            rw (d, get_or-set_same c.loop-t.masks c.loop-t.t c.mask_of.result 0 (omega arith)) (c.mask_of.ensures u (omega arith) ∙ ap (λ (xs : List ℕ). has_id xs u) e)
      ];
      many = length-set c.loop-t.masks c.loop-t.t c.mask_of.result ∙ many;
    }
