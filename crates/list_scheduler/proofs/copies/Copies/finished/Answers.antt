use Rattle.std.proofs.Common.{◌≡◌, ◌<◌, ◌≤◌, ◌+◌, sym, ap, ◌∙◌, arith, lit<, inl, inr}
use Rattle.node_grid.specs.NodeSet.{ids_below}
use Rattle.node_grid.specs.Count.{bit, count}
use Rattle.node_grid.specs.SetFacts.{count_few}
use Rattle.list_scheduler.specs.Copies.{copy_at, is_passed}
use Rattle.node_grid.specs.CapacityLaws.{capacity-le}
use Rattle.node_grid.specs.NodeSetLaws.{count-below}
use Rattle.task_graph.specs.GraphLaws.{few_tasks}
use Rattle.list_scheduler.proofs.copies.Copies.finished.Goals as goal
use Rattle.list_scheduler.proofs.copies.Copies.finished.Goals.{then-is_passed, else-is_passed}

pub overflow_add-passed : goal.overflow_add-passed
overflow_add-passed g c =
    let few = count_few (λ q. is_passed (copy_at c.args.self.now c.args.t q)) c.loop-node.node in
    let so_far : c.loop-node.passed ≡ count (λ q. is_passed (copy_at c.args.self.now c.args.t q)) (ids_below c.loop-node.node) = c.loop-node.invariant in
    let nodes : c.args.graph.now.nodes ≤ g.row.N = c.nodes-node-end.ensures.graph.few_nodes in
    let capacity = capacity-le g.row.N g.bound-1.eight_or_sixteen in
    let end : c.nodes-node-end.result ≡ c.args.graph.now.nodes = c.nodes-node-end.ensures.count in
    let below : c.loop-node.node < c.nodes-node-end.result = c.loop-node-test.true in
    let fits : c.loop-node.passed + 1 < 256 = omega arith in
    search (arith, fits)

pub loop-node-preserved : goal.loop-node-preserved
loop-node-preserved g c =
    let more = count-below (λ q. is_passed (copy_at c.args.self.now c.args.t q)) c.loop-node.node in
    let so_far : c.loop-node.passed ≡ count (λ q. is_passed (copy_at c.args.self.now c.args.t q)) (ids_below c.loop-node.node) = c.loop-node.invariant in
    let told : c.is_passed.result ≡ is_passed (copy_at c.args.self.now c.args.t c.loop-node.node) = c.is_passed.ensures ∙ ap is_passed c.at.ensures.copy in
    elim c.if-is_passed.branch [
      | then-is_passed w ↦
          let b : bit (is_passed (copy_at c.args.self.now c.args.t c.loop-node.node)) ≡ 1 = ap bit (sym told ∙ w.if-is_passed.true) in
          let p : c.if-is_passed.passed ≡ c.loop-node.passed + 1 = w.passed-is in
          omega arith
      | else-is_passed w ↦
          let b : bit (is_passed (copy_at c.args.self.now c.args.t c.loop-node.node)) ≡ 0 = ap bit (sym told ∙ w.if-is_passed.false) in
          let p : c.if-is_passed.passed ≡ c.loop-node.passed = w.passed-is in
          omega arith
    ]

pub nodes-node-end-requires : goal.nodes-node-end-requires
nodes-node-end-requires g c = lit< tt

pub loop-node-smaller : goal.loop-node-smaller
loop-node-smaller g c = omega (arith, c.loop-node-test.true)

pub task-requires : goal.task-requires
task-requires g c = (lit< tt, (lit< tt, c.requires.task))

pub at-requires : goal.at-requires
at-requires g c =
    let few = few_tasks _ _ c.nodes-node-end.ensures.graph.tasks.in_range in
    (elim g.bound-1.eight_or_sixteen [ inl e ↦ rw e (lit< tt) | inr e ↦ rw e (lit< tt) ], (omega (arith, c.requires.task, few), omega (arith, c.loop-node-test.true, c.nodes-node-end.ensures.count, c.nodes-node-end.ensures.graph.few_nodes)))
