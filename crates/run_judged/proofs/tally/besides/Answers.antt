use Rattle.std.proofs.Common.{◌≡◌, ◌&&◌, not, sym, ap, ◌∙◌, arith}
use Rattle.node_grid.specs.NodeSet.{has_id}
use Rattle.node_grid.specs.NodeSetLaws.{count-below}
use Rattle.node_grid.specs.Count.{bit}
use Rattle.run_judged.proofs.tally.besides.Goals as goal
use Rattle.run_judged.proofs.tally.besides.Goals.{then-is_besides, else-is_besides}

pub loop-node-preserved : goal.loop-node-preserved
loop-node-preserved g c =
    let one = c.args.one.now in
    let other = c.args.other.now in
    let j = c.loop-node.node in
    let more = count-below (λ k. has_id one k && not (has_id other k)) j in
    elim c.if-is_besides.branch [
      | then-is_besides w ↦
          let here : bit (has_id one j && not (has_id other j)) ≡ 1 = ap bit (sym c.is_besides.ensures ∙ w.if-is_besides.true) in
          record { counted = omega arith; few = omega arith }
      | else-is_besides w ↦
          let here : bit (has_id one j && not (has_id other j)) ≡ 0 = ap bit (sym c.is_besides.ensures ∙ w.if-is_besides.false) in
          record { counted = omega arith; few = omega arith }
    ]
