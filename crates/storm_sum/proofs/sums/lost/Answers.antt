use Rattle.std.proofs.Common.{◌≡◌, ◌&&◌, not, sym, ap, ◌∙◌, arith}
use Rattle.node_grid.specs.NodeSet.{has_id}
use Rattle.node_grid.specs.Count.{bit}
use Rattle.storm_sum.proofs.Totals.{lost_more, lost_none}
use Rattle.storm_sum.proofs.sums.lost.Goals as goal
use Rattle.storm_sum.proofs.sums.lost.Goals.{then-is_lost, else-is_lost}

pub loop-node-init : goal.loop-node-init
loop-node-init c = record { counted = sym (lost_none c.args.before.now c.args.after.now); few = omega arith }

pub loop-node-preserved : goal.loop-node-preserved
loop-node-preserved c =
    let more = lost_more c.loop-node.node c.args.before.now c.args.after.now in
    elim c.if-is_lost.branch [
      | then-is_lost w ↦
          let one : bit (has_id c.args.before.now c.loop-node.node && not (has_id c.args.after.now c.loop-node.node)) ≡ 1 = ap bit (sym c.is_lost.ensures ∙ w.if-is_lost.true) in
          record { counted = omega arith; few = omega arith }
      | else-is_lost w ↦
          let none : bit (has_id c.args.before.now c.loop-node.node && not (has_id c.args.after.now c.loop-node.node)) ≡ 0 = ap bit (sym c.is_lost.ensures ∙ w.if-is_lost.false) in
          record { counted = omega arith; few = omega arith }
    ]
