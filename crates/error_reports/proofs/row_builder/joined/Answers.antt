use Rattle.std.proofs.Common.{ℕ, ap, ◌∙◌, bit_and, bit_or}
use Rattle.error_reports.specs.Notes.{is_kind}
use Rattle.error_reports.proofs.Filling.{joined}
use Rattle.error_reports.proofs.row_builder.joined.Goals as goal

pub returns : goal.returns
returns c =
    ap (λ (all : ℕ). bit_and (bit_or c.args.mask c.bit_of.result) all) c.all_kinds.ensures
    ∙ joined c.args.mask c.bit_of.result c.args.kinds (is_kind c.args.kind) c.requires c.bit_of.ensures
