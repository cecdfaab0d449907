use Rattle.std.proofs.Common.{None, sym, subst, ◌∙◌, arith}
use Rattle.std.specs.Prelude.{slice_index_or}
use Rattle.error_reports.specs.Notes.{is_kind}
use Rattle.told_values.specs.Within.{IsWithin, noted_within}
use Rattle.told_values.proofs.Noting.{errors_are, no_error}
use Rattle.told_values.proofs.listener.Listener.note_errors.Goals as goal

pub returns-then-not-hears_all-clause-errors : goal.returns-then-not-hears_all-clause-errors
returns-then-not-hears_all-clause-errors g c = λ x hears.
    errors_are g.row.N c.args.notes.now c.note_kinds.new.notes (λ j. slice_index_or c.kinds.result j None) x.values c.note_kinds.ensures
    (λ j k used other. c.kinds.ensures x hears j k (let e = c.requires.notes.nodes_are in omega arith) (λ e. other (e ∙ sym c.requires.notes.me_is)))

pub returns-then-not-hears_all-clause-within : goal.returns-then-not-hears_all-clause-within
returns-then-not-hears_all-clause-within g c =
    subst (IsWithin g.row.N) (sym c.note_kinds.ensures) (noted_within g.row.N c.args.notes.now (λ j k. is_kind (slice_index_or c.kinds.result j None) k) c.requires.notes.few_kinds)

pub returns-else-not-hears_all-clause-errors : goal.returns-else-not-hears_all-clause-errors
returns-else-not-hears_all-clause-errors g c = λ x hears.
    no_error g.row.N c.args.notes.now x.values
    (λ j used other. c.hears_all.ensures c.if-not-hears_all.false x hears j (let e = c.requires.notes.nodes_are in omega arith) (λ e. other (e ∙ sym c.requires.notes.me_is))) c.requires.notes.within
