use Rattle.std.proofs.Common.{Option, ℕ, sym, ap, ◌∙◌, arith}
use Rattle.error_reports.specs.Notes.{is_kind}
use Rattle.error_reports.proofs.Filling.{one_bit}
use Rattle.error_reports.proofs.row_builder.bit_of.Goals as goal

pub returns-then-kind-kinds : goal.returns-then-kind-kinds
returns-then-kind-kinds c = λ k low.
    one_bit c.in-Some.kind k (let t = c.if-kind-kinds.true in let few = c.requires in omega arith) ∙ ap (λ (x : Option ℕ). is_kind x k) (sym c.in-Some.is)
