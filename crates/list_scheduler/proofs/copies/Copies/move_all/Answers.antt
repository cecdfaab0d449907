use Rattle.std.proofs.Common.{◌<◌, ◌||◌, inl, inr, lit<, refl, ◌+◌, ap, ap₂, subst, sym, ◌∙◌, arith}
use Rattle.std.specs.Prelude.{is_some}
use Rattle.node_grid.specs.NodeSet.{ids_below, union_of}
use Rattle.node_grid.specs.NodeSetLaws.{filter_range, filter_none}
use Rattle.task_graph.specs.GraphLaws.{few_tasks}
use Rattle.list_scheduler.specs.declared.copies.CopyState.{CopyState}
use Rattle.list_scheduler.specs.Copies.{CopyTable, IsTable, running, table, works, works_among}
use Rattle.list_scheduler.specs.ScheduleLaws.{graph_ordered}
use Rattle.list_scheduler.specs.ByTask.{moved}
use Rattle.list_scheduler.proofs.Found.{union_where}
use Rattle.list_scheduler.proofs.Moving.{moved_below-none, moved_below-idle, moved_below-more, moved_below-all, works_below-more, works_tasks, moves_here}
use Rattle.list_scheduler.proofs.Whole.{moved_kept}
use Rattle.list_scheduler.proofs.copies.Copies.move_all.Goals as goal

pub loop-t-init : goal.loop-t-init
loop-t-init g c = record {
  copies = moved_below-none g.row.N c.args.graph.now c.args.before.now c.args.after.now c.args.self.now c.args.claims.now (subst (IsTable g.row.N) c.self.view_is c.self.invariant);
  busy = c.empty-busy.ensures ∙ sym (filter_none _ 0 g.row.N (λ k l u. refl));
}

pub move_task-requires : goal.move_task-requires
move_task-requires g c =
    let count = c.len-t-end.ensures.count in
    let test = c.loop-t-test.true in (
      elim g.bound-1.eight_or_sixteen [ inl e ↦ rw e (lit< tt) | inr e ↦ rw e (lit< tt) ],
      (
        lit< tt,
        (
          lit< tt,
          (
            elim g.bound-1.eight_or_sixteen [ inl e ↦ rw e (lit< tt) | inr e ↦ rw e (lit< tt) ],
            (
              omega arith,
              λ q off. moved_below-idle g.row.N c.loop-t.t q c.args.graph.now c.args.before.now c.args.after.now c.args.self.now c.loop-t.self c.args.claims.now c.requires.copies c.loop-t.invariant.copies off,
            ),
          ),
        ),
      ),
    )

pub loop-t-preserved : goal.loop-t-preserved
loop-t-preserved g c =
    let n = g.row.N in
    let i = c.loop-t.t in
    let graph = c.args.graph.now in
    let count = c.len-t-end.ensures.count in
    let test = c.loop-t-test.true in
    let few = few_tasks graph.nodes graph.tasks c.len-t-end.ensures.graph.tasks.in_range in
    let low : i < 32 = omega arith in
    let all : CopyTable = table n (moved graph c.args.before.now c.args.after.now c.args.self.now c.args.claims.now) in
    record {
      copies = moved_below-more n i graph c.args.before.now c.args.after.now c.args.self.now c.loop-t.self c.move_task.new.self c.args.claims.now c.loop-t.invariant.copies low c.move_task.ensures.copies;
      busy = c.union-busy.ensures ∙ ap₂ (union_of n) c.loop-t.invariant.busy c.move_task.ensures.busy ∙ union_where n _ _
          ∙ filter_range _ (λ q. is_some (works_among all q (ids_below (i + 1)))) 0 n (λ q l u.
          ap (λ (x : CopyState). is_some (works_among all q (ids_below i)) || is_some (running x))
          (moves_here n i q graph c.args.before.now c.args.after.now c.args.self.now c.loop-t.self c.args.claims.now c.loop-t.invariant.copies low (omega arith)) ∙ sym (works_below-more all q i));
    }

pub returns-clause-copies : goal.returns-clause-copies
returns-clause-copies g c =
    let count = c.len-t-end.ensures.count in
    let test = c.loop-t-test.false in
    moved_below-all g.row.N c.loop-t.t c.args.graph.now c.args.before.now c.args.after.now c.args.self.now c.loop-t.self c.args.claims.now c.requires.copies (omega arith) c.loop-t.invariant.copies

pub returns-clause-busy : goal.returns-clause-busy
returns-clause-busy g c =
    let n = g.row.N in
    let graph = c.args.graph.now in
    let count = c.len-t-end.ensures.count in
    let test = c.loop-t-test.false in
    let few = few_tasks graph.nodes graph.tasks c.len-t-end.ensures.graph.tasks.in_range in
    let end = c.loop-t.auto.t-end in
    let all : CopyTable = table n (moved graph c.args.before.now c.args.after.now c.args.self.now c.args.claims.now) in
    let kept = moved_kept n graph c.args.before.now c.args.after.now c.args.self.now c.args.claims.now (graph_ordered n graph c.len-t-end.ensures.graph) c.requires.copies in
    c.loop-t.invariant.busy ∙ filter_range _ (λ q. is_some (works c.loop-t.self q)) 0 n (λ q l u.
    ap is_some (works_tasks graph all q c.loop-t.t kept (omega arith) (omega arith) ∙ ap (λ (x : CopyTable). works x q) (sym (returns-clause-copies g c))))

pub len-t-end-requires : goal.len-t-end-requires
len-t-end-requires g c = lit< tt

pub loop-t-smaller : goal.loop-t-smaller
loop-t-smaller g c = omega (arith, c.loop-t-test.true)
