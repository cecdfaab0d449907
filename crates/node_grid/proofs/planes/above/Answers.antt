use Rattle.std.proofs.Common.{◌<◌, length, ◌∙◌, arith}
use Rattle.std.specs.Prelude.{nat_lt}
use Rattle.node_grid.specs.Planes.{count_at, more_mask}
use Rattle.node_grid.specs.MaskLaws.{mask_from_bits}
use Rattle.node_grid.proofs.Counting.{above_next_one, above_next_zero, above_all}
use Rattle.node_grid.proofs.planes.above.Goals as goal
use Rattle.node_grid.proofs.planes.above.Goals.{then-limit-place-eq1, else-limit-place-eq1}

pub loop-place-preserved : goal.loop-place-preserved
loop-place-preserved g c =
    let planes = c.args.planes.now in
    let within : c.loop-place.place < length planes = omega (arith, c.told-planes) in
    elim c.if-limit-place-eq1.branch [
      | then-limit-place-eq1 w ↦ λ k few.
          rw w.above-is (above_next_one planes c.args.limit c.loop-place.above c.loop-place.place c.args.node k within w.if-limit-place-eq1.true (c.loop-place.invariant k few))
      | else-limit-place-eq1 w ↦ λ k few.
          rw w.above-is (above_next_zero planes c.args.limit c.loop-place.above c.loop-place.place c.args.node k within w.if-limit-place-eq1.false (c.loop-place.invariant k few))
    ]

pub returns : goal.returns
unfolding more_mask
returns g c =
    let planes = c.args.planes.now in
    let limit = c.args.limit in
    let node = c.args.node in
    mask_from_bits c.loop-place.above (λ k. nat_lt limit (count_at planes node k)) 16 (omega arith) (omega (arith, c.loop-place.auto.above-fits))
    (λ k few. c.loop-place.invariant k few ∙ above_all planes limit c.loop-place.place node k (omega arith) c.told-planes c.requires.limit)
