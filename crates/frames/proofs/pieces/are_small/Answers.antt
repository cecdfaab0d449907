use Rattle.std.proofs.Common.{◌≢◌, sym, ap, ◌∙◌, arith, refl, bit_and}
use Rattle.std.specs.Int.{w64, from_be_bytes}
use Rattle.frames.specs.Reading.{piece}
use Rattle.frames.specs.PieceLaws.{AreBytes}
use Rattle.frames.specs.EntryLaws.{small_masks, large_mask}
use Rattle.frames.proofs.Words.{some_high, masks_further}
use Rattle.frames.proofs.pieces.are_small.Goals as goal

pub returns-then-word_at-ne0 : goal.returns-then-word_at-ne0
returns-then-word_at-ne0 c =
    let bytes : AreBytes c.args.bytes.now = λ i. omega (arith, c.type_inv.bytes i) in
    let some : bit_and (from_be_bytes w64 (piece 8 c.args.bytes.now c.loop-k.k)) 18374966859414961920 ≢ 0 =
    λ e. c.if-word_at-ne0.true (ap (λ x. bit_and x 18374966859414961920) c.word_at.ensures ∙ e) in
    sym (some_high c.args.bytes.now c.loop-k.k bytes (omega arith) some)

pub loop-k-preserved : goal.loop-k-preserved
loop-k-preserved c =
    let bytes : AreBytes c.args.bytes.now = λ i. omega (arith, c.type_inv.bytes i) in
    masks_further c.args.bytes.now c.loop-k.k bytes c.loop-k.invariant (ap (λ x. bit_and x 18374966859414961920) (sym c.word_at.ensures) ∙ c.if-word_at-ne0.false)

pub returns-then-bytes-k-ne0 : goal.returns-then-bytes-k-ne0
returns-then-bytes-k-ne0 c = sym (large_mask 1 c.args.bytes.now c.loop-k-2.k (omega arith) refl c.if-bytes-k-ne0.true)

pub returns : goal.returns
returns c =
    let bytes : AreBytes c.args.bytes.now = λ i. omega (arith, c.type_inv.bytes i) in
    sym (small_masks 1 c.args.bytes.now bytes refl (λ k l. c.loop-k-2.invariant k (omega arith)))
