use Rattle.std.proofs.Common.{◌<◌, length, subst, arith, inl, inr, lit<}
use Rattle.list_scheduler.specs.Copies.{IsTable}
use Rattle.list_scheduler.proofs.Picking.{picked_below-none, picked_below-more, picked_below-all, free-none, free-more}
use Rattle.task_graph.specs.GraphLaws.{few_tasks}
use Rattle.list_scheduler.proofs.copies.Copies.start_on.Goals as goal

pub loop-t-init : goal.loop-t-init
loop-t-init g c = record {
  copies = picked_below-none g.row.N c.args.graph.now c.args.nodes.now c.args.self.now (subst (IsTable g.row.N) c.self.view_is c.self.invariant);
  free = free-none g.row.N c.args.graph.now c.args.nodes.now c.args.self.now c.len.ensures.ids;
}

pub loop-t-preserved : goal.loop-t-preserved
loop-t-preserved g c =
    let graph = c.args.graph.now in
    let count = c.len-t-end.ensures.count in
    let test = c.loop-t-test.true in
    let hi : c.loop-t.t < length graph.tasks = omega arith in
    record {
      copies = picked_below-more g.row.N c.loop-t.t graph c.args.nodes.now c.loop-t.free c.starters-starters.result c.args.self.now c.loop-t.self c.start.new.self c.len-t-end.ensures.graph c.requires.free
          c.loop-t.invariant.copies hi c.loop-t.invariant.free c.starters-starters.ensures c.start.ensures;
      free = free-more g.row.N c.loop-t.t graph c.args.nodes.now c.loop-t.free c.starters-starters.result c.minus-free.result c.args.self.now c.loop-t.self c.len-t-end.ensures.graph
          c.loop-t.invariant.copies hi c.loop-t.invariant.free c.starters-starters.ensures c.minus-free.ensures;
    }

pub returns : goal.returns
returns g c =
    let count = c.len-t-end.ensures.count in
    let test = c.loop-t-test.false in
    picked_below-all g.row.N c.loop-t.t c.args.graph.now c.args.nodes.now c.args.self.now c.loop-t.self (omega arith) c.loop-t.invariant.copies

pub len-requires : goal.len-requires
len-requires g c = lit< tt

pub len-t-end-requires : goal.len-t-end-requires
len-t-end-requires g c = lit< tt

pub minus-free-requires : goal.minus-free-requires
minus-free-requires g c = lit< tt

pub starters-starters-requires : goal.starters-starters-requires
starters-starters-requires g c =
    let count = c.len-t-end.ensures.count in
    let test = c.loop-t-test.true in
    (elim g.bound-1.eight_or_sixteen [ inl e ↦ rw e (lit< tt) | inr e ↦ rw e (lit< tt) ], (lit< tt, (lit< tt, omega (arith, count, test))))

pub start-requires : goal.start-requires
start-requires g c =
    let graph = c.args.graph.now in
    let few = few_tasks graph.nodes graph.tasks c.len-t-end.ensures.graph.tasks.in_range in
    let count = c.len-t-end.ensures.count in
    let test = c.loop-t-test.true in
    (elim g.bound-1.eight_or_sixteen [ inl e ↦ rw e (lit< tt) | inr e ↦ rw e (lit< tt) ], (lit< tt, omega (arith, few, count, test)))

pub loop-t-smaller : goal.loop-t-smaller
loop-t-smaller g c = omega (arith, c.loop-t-test.true)
