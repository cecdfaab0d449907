use Rattle.std.proofs.Common.{sym, refl, arith}
use Rattle.frames.specs.PieceLaws.{AreBytes}
use Rattle.frames.specs.EntryLaws.{small_masks, large_mask}
use Rattle.touched_items.proofs.bytes.are_small.Goals as goal

pub returns-then-bytes-k-ne0 : goal.returns-then-bytes-k-ne0
returns-then-bytes-k-ne0 c = sym (large_mask 1 c.args.bytes.now c.loop-k.k (omega arith) refl c.if-bytes-k-ne0.true)

pub returns : goal.returns
returns c =
    let bytes : AreBytes c.args.bytes.now = λ i. omega (arith, c.type_inv.bytes i) in
    sym (small_masks 1 c.args.bytes.now bytes refl (λ k l. c.loop-k.invariant k (omega arith)))
