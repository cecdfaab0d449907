use Rattle.std.proofs.Common.{append-nil, ◌≡◌, ℕ, ◌++◌, ◌&&◌, List, Bool, true, false, ap, ap₂, sym, ◌∙◌, inl, inr, lit<, subst, arith}
use Rattle.node_grid.specs.NodeSet.{has_id, with_id, IsIdSet}
use Rattle.node_grid.specs.ListFacts.{tail_shorter}
use Rattle.task_graph.specs.Graph.{TaskView, task_at}
use Rattle.list_scheduler.specs.Copies.{copy_at, is_idle}
use Rattle.list_scheduler.proofs.Found.{found, found_none, found_more, found_less}
use Rattle.list_scheduler.proofs.Picking.{open_found}
use Rattle.node_grid.specs.CapacityLaws.{capacity-le}
use Rattle.list_scheduler.proofs.Members.{one_more, next_within}
use Rattle.task_graph.specs.GraphLaws.{few_tasks}
use Rattle.list_scheduler.proofs.copies.Copies.open_nodes.Goals as goal
use Rattle.list_scheduler.proofs.copies.Copies.open_nodes.Goals.{else-has-via-then-has+else-is_idle, else-has-via-else-has}

set_of : (n : ℕ) {x y : TaskView} → IsIdSet n x.nodes → x ≡ y → IsIdSet n y.nodes
set_of n ids e = subst (λ (z : TaskView). IsIdSet n z.nodes) e ids

pub loop-node-init : goal.loop-node-init
loop-node-init g c = record {
  can = tt;
  ends = tt;
  split = sym (c.into_iter-node-iterator.ensures.into_iter_gives ∙ c.iter-node-items.ensures.members ∙ ap (λ (x : TaskView). x.nodes) (c.behind-graph.view_is ∙ c.task.ensures.task));
  open_so_far = c.empty-open.ensures ∙ sym (found_none g.row.N (λ q. has_id c.args.free.now q && is_idle (copy_at c.args.self.now c.args.t q)));
}

pub loop-node-preserved-then-is_idle : goal.loop-node-preserved-then-is_idle
loop-node-preserved-then-is_idle g c =
    let n = g.row.N in
    let node = c.in-Some.node in
    let test : ℕ → Bool = λ q. has_id c.args.free.now q && is_idle (copy_at c.args.self.now c.args.t q) in
    let free : has_id c.args.free.now node ≡ true = sym c.has.ensures ∙ c.if-has.true in
    let idle : is_idle (copy_at c.args.self.now c.args.t node) ≡ true = sym (c.is_idle.ensures ∙ ap is_idle c.at.ensures.copy) ∙ c.if-is_idle.true in
    record {
      can = tt;
      ends = tt;
      split = one_more (task_at c.args.graph.now.tasks c.args.t).nodes c.loop-node.yielded node c.next.new.self (c.loop-node.invariant.split ∙ ap (λ (xs : List ℕ). c.loop-node.yielded ++ xs) c.in-Some.ensures.steps);
      open_so_far = c.put.ensures ∙ ap (λ (s : List ℕ). with_id n s node) c.loop-node.invariant.open_so_far ∙ found_more n test c.loop-node.yielded node (ap₂ ◌&&◌ free idle);
    }

pub loop-node-preserved : goal.loop-node-preserved
loop-node-preserved g c =
    let n = g.row.N in
    let node = c.in-Some.node in
    let test : ℕ → Bool = λ q. has_id c.args.free.now q && is_idle (copy_at c.args.self.now c.args.t q) in
    let fails : test node ≡ false = elim c.else-has.branch [
      | else-has-via-then-has+else-is_idle w ↦
          ap₂ ◌&&◌ (sym c.has.ensures ∙ w.if-has.true) (sym (w.is_idle.ensures ∙ ap is_idle w.at.ensures.copy) ∙ w.if-is_idle.false)
      | else-has-via-else-has w ↦ ap (λ (b : Bool). b && is_idle (copy_at c.args.self.now c.args.t node)) (sym c.has.ensures ∙ w.if-has.false)
    ] in
    record {
      can = tt;
      ends = tt;
      split = one_more (task_at c.args.graph.now.tasks c.args.t).nodes c.loop-node.yielded node c.next.new.self (c.loop-node.invariant.split ∙ ap (λ (xs : List ℕ). c.loop-node.yielded ++ xs) c.in-Some.ensures.steps);
      open_so_far = c.loop-node.invariant.open_so_far ∙ found_less n test c.loop-node.yielded node fails;
    }

pub returns : goal.returns
returns g c =
    let n = g.row.N in
    let test : ℕ → Bool = λ q. has_id c.args.free.now q && is_idle (copy_at c.args.self.now c.args.t q) in
    let all : (task_at c.args.graph.now.tasks c.args.t).nodes ≡ c.loop-node.yielded = c.loop-node.invariant.split ∙ ap (λ (xs : List ℕ). c.loop-node.yielded ++ xs) c.in-None.ensures.steps.0 ∙ append-nil c.loop-node.yielded in
    c.loop-node.invariant.open_so_far ∙ ap (found n test) (sym all) ∙ open_found n c.args.t c.args.graph.now c.args.free.now c.args.self.now

pub at-requires : goal.at-requires
at-requires g c = (
  elim g.bound-1.eight_or_sixteen [ inl e ↦ rw e (lit< tt) | inr e ↦ rw e (lit< tt) ],
  (
    let few = few_tasks c.args.graph.now.nodes c.args.graph.now.tasks c.task.ensures.graph.tasks.in_range in let task = c.requires.task in omega (arith, few, task),
    next_within g.row.N (task_at c.args.graph.now.tasks c.args.t).nodes c.loop-node.yielded (set_of g.row.N c.iter-node-items.ensures.ids (c.behind-graph.view_is ∙ c.task.ensures.task)) c.loop-node.invariant.split c.in-Some.ensures.steps,
  ),
)

pub empty-open-requires : goal.empty-open-requires
empty-open-requires g c = (lit< tt, capacity-le g.row.N g.bound-1.eight_or_sixteen)

pub has-requires : goal.has-requires
has-requires g c = lit< tt

pub is_idle-requires : goal.is_idle-requires
is_idle-requires g c = tt

pub iter-node-items-requires : goal.iter-node-items-requires
iter-node-items-requires g c = (lit< tt, lit< tt)

pub loop-node-smaller : goal.loop-node-smaller
loop-node-smaller g c = tail_shorter c.in-Some.ensures.steps

pub loop-node-smaller-then-is_idle : goal.loop-node-smaller-then-is_idle
loop-node-smaller-then-is_idle g c = tail_shorter c.in-Some.ensures.steps

pub next-requires : goal.next-requires
next-requires g c = (lit< tt, tt)

pub put-requires : goal.put-requires
put-requires g c = (
  lit< tt,
  next_within g.row.N (task_at c.args.graph.now.tasks c.args.t).nodes c.loop-node.yielded (set_of g.row.N c.iter-node-items.ensures.ids (c.behind-graph.view_is ∙ c.task.ensures.task)) c.loop-node.invariant.split c.in-Some.ensures.steps,
)

pub task-requires : goal.task-requires
task-requires g c = (lit< tt, (lit< tt, c.requires.task))
