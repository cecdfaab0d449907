use Rattle.std.proofs.Common.{ap, ◌∙◌}
use Rattle.node_grid.specs.Kinds.{deviate}
use Rattle.error_reports.specs.Notes.{Notes, of_each, also_noted}
use Rattle.error_reports.specs.NoteLaws.{noted_twice}
use Rattle.noting.specs.Findings.{found_bad}
use Rattle.noting.proofs.findings.note_values.Goals as goal

pub returns : goal.returns
returns g c =
    c.note_all.ensures ∙ ap (λ (n : Notes). also_noted g.row.N n (of_each c.args.off.now deviate)) c.note_found.ensures
    ∙ noted_twice g.row.N c.args.notes.now (found_bad c.args.found.now) (of_each c.args.off.now deviate) c.requires.few
