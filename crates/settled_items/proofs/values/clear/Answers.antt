use Rattle.std.proofs.Common.{arith}
use Rattle.omh.proofs.Flats.{forget_more, forget_all}
use Rattle.settled_items.proofs.values.clear.Goals as goal

pub loop-value-preserved : goal.loop-value-preserved
loop-value-preserved g c = forget_more c.args.values.now c.loop-value.values c.loop-value.value-index c.value-item.result (omega (arith, c.loop-value-test.true)) c.loop-value.invariant c.value-item.is

pub returns : goal.returns
returns g c = forget_all c.args.values.now c.loop-value.values c.loop-value.value-index (omega (arith, c.loop-value-test.false)) c.loop-value.invariant
