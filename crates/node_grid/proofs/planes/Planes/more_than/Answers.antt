use Rattle.std.proofs.Common.{◌≡◌, get_or, ap, ◌∙◌, arith, inl, inr, get_or-set_same, get_or-set_other, length-set}
use Rattle.std.proofs.lemmas.Bool.{cases_lt}
use Rattle.node_grid.specs.Planes.{more_mask}
use Rattle.node_grid.proofs.planes.Planes.more_than.Goals as goal

pub loop-node-preserved : goal.loop-node-preserved
loop-node-preserved g c =
    let i = c.loop-node.node in
    let masks = c.loop-node.row-inside.masks in
    let mask = c.above.result in
    let seen : c.self.inside.planes ≡ c.args.self.now = c.self.view_is in
    let was = c.loop-node.invariant in
    record {
      wide = length-set masks i mask ∙ was.wide;
      above = λ j more. elim (cases_lt j i) [
        | inl before ↦ rw (get_or-set_other masks i j mask 0 (λ e. omega arith)) (was.above j before)
        | inr now ↦
            let same : j ≡ i = omega arith in
            rw (same, get_or-set_same masks i mask 0 (omega (arith, was.wide, c.loop-node-test.true)))
            (c.above.ensures ∙ ap (λ ps. more_mask ps i (get_or c.args.limits.now i 0)) seen)
      ];
    }
