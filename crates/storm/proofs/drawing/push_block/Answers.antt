use Rattle.std.proofs.Common.{arith, lit<}
use Rattle.storm.proofs.Steps.{failed}
use Rattle.storm.proofs.drawing.push_block.Goals as goal

pub draw-requires : goal.draw-requires
draw-requires c = lit< tt

pub draw-case-requires : goal.draw-case-requires
draw-case-requires c = lit< tt

pub draw-length-requires : goal.draw-length-requires
draw-length-requires c = lit< tt

pub overflow_cast-node : goal.overflow_cast-node
overflow_cast-node c = omega (arith, c.draw.ensures.below)

pub overflow_add-node : goal.overflow_add-node
overflow_add-node c = omega (arith, c.draw.ensures.below)

pub overflow_add-length : goal.overflow_add-length
overflow_add-length c = omega (arith, c.draw-length.ensures.below)

pub overflow_mul-spell : goal.overflow_mul-spell
overflow_mul-spell c = omega (arith, c.requires)

pub overflow_mul-spell-2 : goal.overflow_mul-spell-2
overflow_mul-spell-2 c = omega (arith, c.requires)

pub overflow_add-spell : goal.overflow_add-spell
overflow_add-spell c = omega (arith, c.requires)

pub overflow_add-spell-2 : goal.overflow_add-spell-2
overflow_add-spell-2 c = omega (arith, c.requires, c.draw-length.ensures.below)

pub overflow_add-spell-3 : goal.overflow_add-spell-3
overflow_add-spell-3 c = omega (arith, c.requires)

pub push_lines-requires : goal.push_lines-requires
push_lines-requires c = omega (arith, c.draw.ensures.below)

pub returns-in_err-push_lines : goal.returns-in_err-push_lines
returns-in_err-push_lines c = failed c.from_residual.result _ c.from_residual.ensures.0

pub returns-in_err-push : goal.returns-in_err-push
returns-in_err-push c = failed c.from_residual-in_err-push.result _ c.from_residual-in_err-push.ensures.0
