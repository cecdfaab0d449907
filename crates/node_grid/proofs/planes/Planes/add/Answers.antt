use Rattle.std.proofs.Common.{◌≡◌, ◌+◌, get_or, [], ◌<◌, ap, ap₂, ◌∙◌, arith, length-set, get_or-set_other}
use Rattle.std.specs.Int.{bit_at}
use Rattle.node_grid.specs.Planes.{count_at}
use Rattle.node_grid.proofs.Counting.{added_next, added_all}
use Rattle.node_grid.proofs.planes.Planes.add.Goals as goal

pub loop-plane-preserved : goal.loop-plane-preserved
loop-plane-preserved g c =
    let i = c.loop-plane.plane in
    let old = c.self.inside.planes in
    let new = c.loop-plane.self-inside.planes in
    let sums = c.sum_bits.result in
    let was = c.loop-plane.invariant in
    record {
      low = λ j k in_use few.
          added_next old new sums c.loop-plane.carry c.carry_bits-carry.result c.row.inside.masks i j k (omega (arith, c.self.told)) (omega (arith, was.wide)) (was.high i (omega arith))
          (c.sum_bits.ensures j in_use) (c.carry_bits-carry.ensures j in_use) (was.low j k in_use few);
      wide = length-set new i sums ∙ was.wide;
      high = λ x above. get_or-set_other new i x sums [] (λ e. omega arith) ∙ was.high x (omega arith);
    }

pub returns : goal.returns
returns g c = λ j k in_use few.
    let was = c.loop-plane.invariant in
    let seen : c.self.inside.planes ≡ c.args.self.now = c.self.view_is in
    let row : c.row.inside.masks ≡ c.args.row.now = c.row.view_is in
    let room : count_at c.self.inside.planes j k < 31 = omega (arith, c.requires.room j k in_use few, ap (λ ps. count_at ps j k) seen) in
    added_all c.self.inside.planes c.loop-plane.self-inside.planes c.loop-plane.carry c.row.inside.masks c.loop-plane.plane j k (omega arith) c.self.told was.wide (was.low j k in_use few) room
    ∙ ap₂ (λ ps masks. count_at ps j k + bit_at (get_or masks j 0) k) seen row
