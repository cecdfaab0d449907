use Rattle.std.proofs.Common.{◌<◌, List, ℕ, length, take, ap, ◌∙◌, arith}
use Rattle.node_grid.specs.NodeSet.{has_id}
use Rattle.settled_paths.specs.Passing.{passed}
use Rattle.settled_items.proofs.Walking.{off_take, walked_more, passed_more}
use Rattle.settled_items.proofs.relayed.Relayed.passed.Goals as goal

pub loop-k-preserved : goal.loop-k-preserved
loop-k-preserved g c =
    let i = c.loop-k.invariant in
    let x = c.args.self.now in
    let here : c.loop-k.k < length c.args.path.now = omega (arith, c.loop-k-test.true, c.len-len.ensures.count) in
    record {
      walked = walked_more c.args.path.now c.loop-k.walked c.then-walked.result c.loop-k.k c.at-q.result here i.walked c.at-q.ensures c.then-walked.ensures;
      before = passed_more x.exchange.full x.own.now (g.T.Touched.says x.touched.now) c.args.path.now c.loop-k.walked c.loop-k.k c.at-q.result c.passed_behind-before.result (omega (arith, c.loop-k.auto.k)) here i.walked c.at-q.ensures
          (c.passed_behind-before.ensures.passed (passed x.exchange.full x.own.now (g.T.Touched.says x.touched.now) (take c.loop-k.k c.args.path.now)) i.before);
      known = c.passed_behind-before.ensures.known;
    }

pub then-walked-requires-clause-off : goal.then-walked-requires-clause-off
then-walked-requires-clause-off g c =
    let here : c.loop-k.k < length c.args.path.now = omega (arith, c.loop-k-test.true, c.len-len.ensures.count) in
    ap (λ (p : List ℕ). has_id p c.at-q.result) c.loop-k.invariant.walked
    ∙ ap (has_id (take c.loop-k.k c.args.path.now)) c.at-q.ensures
    ∙ off_take c.args.path.now c.loop-k.k c.len-len.ensures.distinct here
