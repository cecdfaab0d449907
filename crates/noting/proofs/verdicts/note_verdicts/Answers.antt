use Rattle.std.proofs.Common.{rules, ◌&&◌, ◌||◌, ◌==◌, ℕ, Option, Some, None, if◌then◌else◌, ap, ap₂, ◌∙◌}
use Rattle.std.specs.Prelude.{slice_index_or}
use Rattle.node_grid.specs.Kinds.{claim, overrun}
use Rattle.list_scheduler.specs.declared.schedule.Verdict.{Verdict}
use Rattle.list_scheduler.specs.Schedule.{no_verdict}
use Rattle.error_reports.specs.Notes.{Notes, is_kind, also_noted}
use Rattle.error_reports.specs.NoteLaws.{noted_twice, noted_alike, kind_where}
use Rattle.noting.proofs.verdicts.note_verdicts.Goals as goal

pub returns : goal.returns
returns g c =
    let n = c.args.notes.now in
    let at : ℕ → Verdict = λ j. slice_index_or c.args.verdicts.now j no_verdict in
    let wrong : ℕ → Option ℕ = λ j. if (at j).claim then Some claim else None in
    let late : ℕ → Option ℕ = λ j. if (at j).overrun then Some overrun else None in
    c.note_each-2.ensures.row late (λ j x low used other ran. search rules)
    ∙ ap (λ (v : Notes). also_noted g.row.N v (λ j k. is_kind (late j) k)) (c.note_each.ensures.row wrong (λ j x low used other ran. search rules))
    ∙ noted_twice g.row.N n (λ j k. is_kind (wrong j) k) (λ j k. is_kind (late j) k) c.requires.few
    ∙ noted_alike g.row.N n (λ j k. is_kind (wrong j) k || is_kind (late j) k) (λ j k. ((at j).claim && k == claim) || ((at j).overrun && k == overrun))
    (λ j k low used other within. ap₂ ◌||◌ (kind_where (at j).claim claim k) (kind_where (at j).overrun overrun k))
