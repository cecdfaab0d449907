use Rattle.std.proofs.Common.{◌≡◌, ◌/◌, ◌<◌, true, false, length, sym, ap, ◌∙◌, arith}
use borrow.Author.Count.{below_more}
use Rattle.frames.specs.Checks.{is_claim_entry}
use Rattle.frames.specs.Reading.{piece}
use Rattle.frames.specs.PieceLaws.{each_passes, one_fails, slice_is_piece}
use Rattle.frames.proofs.decoding.are_claims.Goals as goal

pub returns : goal.returns
returns c = sym (each_passes (is_claim_entry c.args.tasks c.args.round) 2 c.args.body.now (λ k l. c.loop-k.invariant k (omega arith)))

pub returns-then-not-is_claim_entry : goal.returns-then-not-is_claim_entry
returns-then-not-is_claim_entry c =
    let l : c.loop-k.k < length c.args.body.now / 2 = c.loop-k-test.true in
    let e : is_claim_entry c.args.tasks c.args.round (piece 2 c.args.body.now c.loop-k.k) ≡ false = ap (is_claim_entry c.args.tasks c.args.round) (sym (slice_is_piece 2 c.args.body.now c.loop-k.k)) ∙ sym c.is_claim_entry.ensures ∙ c.if-not-is_claim_entry.true in
    sym (one_fails (is_claim_entry c.args.tasks c.args.round) 2 c.args.body.now c.loop-k.k l e)

pub loop-k-init : goal.loop-k-init
loop-k-init c = λ j low. absurd (omega arith)

pub loop-k-smaller : goal.loop-k-smaller
loop-k-smaller c = let t = c.loop-k-test.true in omega arith

pub loop-k-preserved : goal.loop-k-preserved
loop-k-preserved c =
    below_more (λ j. is_claim_entry c.args.tasks c.args.round (piece 2 c.args.body.now j) ≡ true) c.loop-k.k c.loop-k.invariant
    (ap (is_claim_entry c.args.tasks c.args.round) (sym (slice_is_piece 2 c.args.body.now c.loop-k.k)) ∙ sym c.is_claim_entry.ensures ∙ c.if-not-is_claim_entry.false)

pub overflow_mul-k : goal.overflow_mul-k
overflow_mul-k c = let t = c.loop-k-test.true in omega arith

pub overflow_add-k : goal.overflow_add-k
overflow_add-k c = let t = c.loop-k-test.true in omega arith

pub overflow_mul-k-in-loop-k : goal.overflow_mul-k-in-loop-k
overflow_mul-k-in-loop-k c = let t = c.loop-k-test.true in omega arith

pub slice_bounds-is_claim_entry-count : goal.slice_bounds-is_claim_entry-count
slice_bounds-is_claim_entry-count c = omega arith
