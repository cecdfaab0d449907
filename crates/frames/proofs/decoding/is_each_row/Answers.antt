use Rattle.std.proofs.Common.{◌≡◌, ◌/◌, ◌<◌, true, false, length, sym, ap, ◌∙◌, arith}
use borrow.Author.Count.{below_more}
use Rattle.frames.specs.Checks.{is_row_entry}
use Rattle.frames.specs.Reading.{piece}
use Rattle.frames.specs.PieceLaws.{each_passes, one_fails, piece_within, slice_is_piece}
use Rattle.frames.proofs.decoding.is_each_row.Goals as goal

pub returns : goal.returns
returns c = sym (each_passes (is_row_entry c.args.version c.args.round) c.args.width c.args.body.now (λ k l. c.loop-k.invariant k (omega arith)))

pub returns-then-not-is_row_entry : goal.returns-then-not-is_row_entry
returns-then-not-is_row_entry c =
    let l : c.loop-k.k < length c.args.body.now / c.args.width = c.loop-k-test.true in
    let e : is_row_entry c.args.version c.args.round (piece c.args.width c.args.body.now c.loop-k.k) ≡ false = ap (is_row_entry c.args.version c.args.round) (sym (slice_is_piece c.args.width c.args.body.now c.loop-k.k)) ∙ sym c.is_row_entry.ensures ∙ c.if-not-is_row_entry.true in
    sym (one_fails (is_row_entry c.args.version c.args.round) c.args.width c.args.body.now c.loop-k.k l e)

pub loop-k-preserved : goal.loop-k-preserved
loop-k-preserved c =
    below_more (λ j. is_row_entry c.args.version c.args.round (piece c.args.width c.args.body.now j) ≡ true) c.loop-k.k c.loop-k.invariant
    (ap (is_row_entry c.args.version c.args.round) (sym (slice_is_piece c.args.width c.args.body.now c.loop-k.k)) ∙ sym c.is_row_entry.ensures ∙ c.if-not-is_row_entry.false)

pub loop-k-init : goal.loop-k-init
loop-k-init c = λ j low. absurd (omega arith)

pub loop-k-smaller : goal.loop-k-smaller
loop-k-smaller c = let t = c.loop-k-test.true in omega arith

pub nonzero_div-k-end : goal.nonzero_div-k-end
nonzero_div-k-end c = omega (arith, c.requires)

pub overflow_mul-width : goal.overflow_mul-width
overflow_mul-width c = let p = piece_within c.args.width c.loop-k.k (length c.args.body.now) (omega arith) c.loop-k-test.true in omega arith

pub overflow_add-width : goal.overflow_add-width
overflow_add-width c = let p = piece_within c.args.width c.loop-k.k (length c.args.body.now) (omega arith) c.loop-k-test.true in omega arith

pub overflow_mul-width-in-loop-k : goal.overflow_mul-width-in-loop-k
overflow_mul-width-in-loop-k c = let p = piece_within c.args.width c.loop-k.k (length c.args.body.now) (omega arith) c.loop-k-test.true in omega arith

pub slice_bounds-is_row_entry-count : goal.slice_bounds-is_row_entry-count
slice_bounds-is_row_entry-count c = omega arith
