use Rattle.std.proofs.Common.{refl, arith}
use Rattle.json_parts.proofs.keys.is_name.Goals as goal

pub loop-name-init : goal.loop-name-init
loop-name-init c = refl

pub bounds-names-name-index : goal.bounds-names-name-index
bounds-names-name-index c = c.loop-name-test.true

pub fact_in-key : goal.fact_in-key
fact_in-key c = c.utf8.key

pub eq-requires : goal.eq-requires
eq-requires c = tt

pub loop-name-smaller : goal.loop-name-smaller
loop-name-smaller c = omega (arith, c.loop-name-test.true)
