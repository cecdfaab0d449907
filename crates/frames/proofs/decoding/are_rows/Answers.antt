use Rattle.std.proofs.Common.{◌∙◌, arith}
use Rattle.frames.specs.Checks.{is_row_entry}
use Rattle.frames.proofs.Words.{same_tested}
use Rattle.frames.proofs.decoding.are_rows.Goals as goal

pub returns-then-is_repeated : goal.returns-then-is_repeated
returns-then-is_repeated c =
    c.is_row_entry.ensures
    ∙ same_tested (is_row_entry c.args.version c.args.round) c.args.width c.args.body.now (omega (arith, c.requires)) (omega (arith, c.if-width-body.true)) (c.is_repeated.ensures c.if-is_repeated.true)
