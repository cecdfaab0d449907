use Rattle.std.proofs.Common.{append-nil, ◌≡◌, ℕ, ◌<◌, ◌++◌, length, List, Bool, ap, subst, sym, ◌∙◌, arith, inl, inr, lit<}
use Rattle.std.specs.Prelude.{is_some}
use Rattle.std.proofs.lemmas.List.{get_or_default}
use Rattle.node_grid.specs.NodeSet.{with_id, IsIdSet}
use Rattle.node_grid.specs.ListFacts.{tail_shorter}
use Rattle.omh_paths.specs.declared.wrapped.Wrapped.TheVariants.{Fault}
use Rattle.task_graph.specs.Graph.{TaskView, task_at}
use Rattle.task_graph.specs.GraphLaws.{few_tasks}
use Rattle.list_scheduler.specs.declared.copies.CopyState.{CopyState}
use Rattle.list_scheduler.specs.Copies.{IsTable, running, table}
use Rattle.list_scheduler.specs.ByTask.{moved}
use Rattle.list_scheduler.proofs.Found.{found, found_none, found_more, found_less, found_all}
use Rattle.list_scheduler.proofs.Moving.{among, among_none, among_fresh, among_more, among_all, moved_told, runs_only}
use Rattle.node_grid.specs.CapacityLaws.{capacity-le}
use Rattle.list_scheduler.proofs.Members.{next_member, one_more, next_within}
use Rattle.list_scheduler.proofs.copies.Copies.move_task.Goals as goal

set_of : (n : ℕ) {x y : TaskView} → IsIdSet n x.nodes → x ≡ y → IsIdSet n y.nodes
set_of n ids e = subst (λ (z : TaskView). IsIdSet n z.nodes) e ids

pub loop-node-init : goal.loop-node-init
loop-node-init g c = record {
  can = tt;
  ends = tt;
  split = sym (c.into_iter-node-iterator.ensures.into_iter_gives ∙ c.iter-node-items.ensures.members ∙ ap (λ (x : TaskView). x.nodes) (c.behind-graph.view_is ∙ c.task.ensures.task));
  copies = among_none g.row.N c.args.t (moved c.args.graph.now c.args.before.now c.args.after.now c.args.self.now c.args.claims.now) c.args.self.now (subst (IsTable g.row.N) c.self.view_is c.self.invariant);
  busy = c.empty-busy.ensures ∙ sym (found_none g.row.N (λ q. is_some (running (moved c.args.graph.now c.args.before.now c.args.after.now c.args.self.now c.args.claims.now c.args.t q))));
}

pub loop-node-preserved-then-move_copy : goal.loop-node-preserved-then-move_copy
loop-node-preserved-then-move_copy g c =
    let n = g.row.N in
    let node = c.in-Some.node in
    let graph = c.args.graph.now in
    let old = c.args.self.now in
    let f = moved graph c.args.before.now c.args.after.now old c.args.claims.now in
    let few = few_tasks graph.nodes graph.tasks c.task.ensures.graph.tasks.in_range in
    let task = c.requires.task in
    let low : c.args.t < 32 = omega arith in
    let nodes = ap (λ (x : TaskView). x.nodes) (c.behind-graph.view_is ∙ c.task.ensures.task) in
    let split = c.loop-node.invariant.split ∙ ap (λ (xs : List ℕ). c.loop-node.yielded ++ xs) c.in-Some.ensures.steps in
    let next = next_member n (task_at graph.tasks c.args.t).nodes c.loop-node.yielded node c.next.new.self (subst (IsIdSet n) nodes c.iter-node-items.ensures.ids) split in
    let l : node < length c.args.claims.now = subst (λ (k : ℕ). node < k) (sym c.told-claims) next.within in
    let says = get_or_default c.args.claims.now node _ (Fault 0) l in
    let fresh = among_fresh n c.args.t node c.loop-node.yielded f old c.loop-node.self c.loop-node.invariant.copies low next.within next.fresh in
    let told = moved_told graph c.args.before.now c.args.after.now old c.loop-node.self c.args.claims.now c.args.t node c.has.result c.has-in-loop-node.result _ c.has.ensures c.has-in-loop-node.ensures says fresh in
    let test : ℕ → Bool = λ q. is_some (running (f c.args.t q)) in
    let runs = c.move_copy.ensures.runs ∙ ap (λ (x : CopyState). is_some (running x)) told in
    record {
      can = tt;
      ends = tt;
      split = one_more (task_at graph.tasks c.args.t).nodes c.loop-node.yielded node c.next.new.self split;
      copies = among_more n c.args.t node c.loop-node.yielded f old c.loop-node.self c.move_copy.new.self _ c.loop-node.invariant.copies told c.move_copy.ensures.copies;
      busy = c.put.ensures ∙ ap (λ (s : List ℕ). with_id n s node) c.loop-node.invariant.busy ∙ found_more n test c.loop-node.yielded node (sym runs ∙ c.if-move_copy.true);
    }

pub loop-node-preserved : goal.loop-node-preserved
loop-node-preserved g c =
    let n = g.row.N in
    let node = c.in-Some.node in
    let graph = c.args.graph.now in
    let old = c.args.self.now in
    let f = moved graph c.args.before.now c.args.after.now old c.args.claims.now in
    let few = few_tasks graph.nodes graph.tasks c.task.ensures.graph.tasks.in_range in
    let task = c.requires.task in
    let low : c.args.t < 32 = omega arith in
    let nodes = ap (λ (x : TaskView). x.nodes) (c.behind-graph.view_is ∙ c.task.ensures.task) in
    let split = c.loop-node.invariant.split ∙ ap (λ (xs : List ℕ). c.loop-node.yielded ++ xs) c.in-Some.ensures.steps in
    let next = next_member n (task_at graph.tasks c.args.t).nodes c.loop-node.yielded node c.next.new.self (subst (IsIdSet n) nodes c.iter-node-items.ensures.ids) split in
    let l : node < length c.args.claims.now = subst (λ (k : ℕ). node < k) (sym c.told-claims) next.within in
    let says = get_or_default c.args.claims.now node _ (Fault 0) l in
    let fresh = among_fresh n c.args.t node c.loop-node.yielded f old c.loop-node.self c.loop-node.invariant.copies low next.within next.fresh in
    let told = moved_told graph c.args.before.now c.args.after.now old c.loop-node.self c.args.claims.now c.args.t node c.has.result c.has-in-loop-node.result _ c.has.ensures c.has-in-loop-node.ensures says fresh in
    let test : ℕ → Bool = λ q. is_some (running (f c.args.t q)) in
    let runs = c.move_copy.ensures.runs ∙ ap (λ (x : CopyState). is_some (running x)) told in
    record {
      can = tt;
      ends = tt;
      split = one_more (task_at graph.tasks c.args.t).nodes c.loop-node.yielded node c.next.new.self split;
      copies = among_more n c.args.t node c.loop-node.yielded f old c.loop-node.self c.move_copy.new.self _ c.loop-node.invariant.copies told c.move_copy.ensures.copies;
      busy = c.loop-node.invariant.busy ∙ found_less n test c.loop-node.yielded node (sym runs ∙ c.if-move_copy.false);
    }

pub returns-clause-copies : goal.returns-clause-copies
returns-clause-copies g c =
    let n = g.row.N in
    let all : (task_at c.args.graph.now.tasks c.args.t).nodes ≡ c.loop-node.yielded = c.loop-node.invariant.split ∙ ap (λ (xs : List ℕ). c.loop-node.yielded ++ xs) c.in-None.ensures.steps.0 ∙ append-nil c.loop-node.yielded in
    among_all n c.args.t c.args.graph.now c.args.before.now c.args.after.now c.args.self.now c.loop-node.self c.args.claims.now c.requires.idle
    (c.loop-node.invariant.copies ∙ ap (λ (ys : List ℕ). table n (among c.args.t ys (moved c.args.graph.now c.args.before.now c.args.after.now c.args.self.now c.args.claims.now) c.args.self.now)) (sym all))

pub returns-clause-busy : goal.returns-clause-busy
returns-clause-busy g c =
    let n = g.row.N in
    let test : ℕ → Bool = λ q. is_some (running (moved c.args.graph.now c.args.before.now c.args.after.now c.args.self.now c.args.claims.now c.args.t q)) in
    let all : (task_at c.args.graph.now.tasks c.args.t).nodes ≡ c.loop-node.yielded = c.loop-node.invariant.split ∙ ap (λ (xs : List ℕ). c.loop-node.yielded ++ xs) c.in-None.ensures.steps.0 ∙ append-nil c.loop-node.yielded in
    c.loop-node.invariant.busy ∙ ap (found n test) (sym all)
    ∙ found_all n test test (task_at c.args.graph.now.tasks c.args.t).nodes (λ q hq. runs_only c.args.t q c.args.graph.now c.args.before.now c.args.after.now c.args.self.now c.args.claims.now c.requires.idle)

pub bounds-claims-node : goal.bounds-claims-node
bounds-claims-node g c = next_within g.row.N (task_at c.args.graph.now.tasks c.args.t).nodes c.loop-node.yielded (set_of g.row.N c.iter-node-items.ensures.ids (c.behind-graph.view_is ∙ c.task.ensures.task)) c.loop-node.invariant.split c.in-Some.ensures.steps

pub empty-busy-requires : goal.empty-busy-requires
empty-busy-requires g c = (lit< tt, capacity-le g.row.N g.bound-1.eight_or_sixteen)

pub has-requires : goal.has-requires
has-requires g c = lit< tt

pub has-requires-in-loop-node : goal.has-requires-in-loop-node
has-requires-in-loop-node g c = lit< tt

pub iter-node-items-requires : goal.iter-node-items-requires
iter-node-items-requires g c = (lit< tt, lit< tt)

pub loop-node-smaller : goal.loop-node-smaller
loop-node-smaller g c = tail_shorter c.in-Some.ensures.steps

pub loop-node-smaller-then-move_copy : goal.loop-node-smaller-then-move_copy
loop-node-smaller-then-move_copy g c = tail_shorter c.in-Some.ensures.steps

pub move_copy-requires : goal.move_copy-requires
move_copy-requires g c = (
  elim g.bound-1.eight_or_sixteen [ inl e ↦ rw e (lit< tt) | inr e ↦ rw e (lit< tt) ],
  (
    lit< tt,
    (
      c.requires.task,
      next_within g.row.N (task_at c.args.graph.now.tasks c.args.t).nodes c.loop-node.yielded (set_of g.row.N c.iter-node-items.ensures.ids (c.behind-graph.view_is ∙ c.task.ensures.task)) c.loop-node.invariant.split c.in-Some.ensures.steps,
    ),
  ),
)

pub next-requires : goal.next-requires
next-requires g c = (lit< tt, tt)

pub offset_bounds-claims-node : goal.offset_bounds-claims-node
offset_bounds-claims-node g c =
    let low : c.in-Some.node < g.row.N =
    next_within g.row.N (task_at c.args.graph.now.tasks c.args.t).nodes c.loop-node.yielded (set_of g.row.N c.iter-node-items.ensures.ids (c.behind-graph.view_is ∙ c.task.ensures.task)) c.loop-node.invariant.split c.in-Some.ensures.steps in
    omega (arith, low, capacity-le g.row.N g.bound-1.eight_or_sixteen)

pub overflow_cast-claim : goal.overflow_cast-claim
overflow_cast-claim g c =
    let low : c.in-Some.node < g.row.N =
    next_within g.row.N (task_at c.args.graph.now.tasks c.args.t).nodes c.loop-node.yielded (set_of g.row.N c.iter-node-items.ensures.ids (c.behind-graph.view_is ∙ c.task.ensures.task)) c.loop-node.invariant.split c.in-Some.ensures.steps in
    omega (arith, low, capacity-le g.row.N g.bound-1.eight_or_sixteen)

pub put-requires : goal.put-requires
put-requires g c = (
  lit< tt,
  next_within g.row.N (task_at c.args.graph.now.tasks c.args.t).nodes c.loop-node.yielded (set_of g.row.N c.iter-node-items.ensures.ids (c.behind-graph.view_is ∙ c.task.ensures.task)) c.loop-node.invariant.split c.in-Some.ensures.steps,
)

pub task-requires : goal.task-requires
task-requires g c = (lit< tt, (lit< tt, c.requires.task))
