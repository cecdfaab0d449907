use Rattle.std.proofs.Common.{refl, inr}
use Rattle.touched_items.proofs.Patches.{unwritten, all_written}
use Rattle.touched_items.proofs.patch.Patch.put_over.Goals as goal

pub loop-place-init : goal.loop-place-init
loop-place-init c = record {
  low = inr refl;
  written = λ k. unwritten c.args.self.now.at c.args.from c.max-start.result c.args.self.now.bytes.now c.args.part.now k c.max-start.ensures;
}

pub returns : goal.returns
returns c =
    all_written c.args.self.now.at c.args.from c.max-start.result c.min-end.result c.loop-place.place c.args.self.now.bytes.now c.loop-place.part c.args.part.now
    c.max-start.ensures c.min-end.ensures c.loop-place.auto.part c.loop-place.invariant.written c.loop-place.invariant.low c.loop-place-test.false
