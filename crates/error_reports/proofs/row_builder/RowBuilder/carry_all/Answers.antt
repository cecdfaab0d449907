use Rattle.std.proofs.Common.{rules, if◌then◌else◌, Some, None, ◌∙◌}
use Rattle.node_grid.specs.NodeSet.{has_id}
use Rattle.error_reports.specs.Notes.{is_kind, of_each}
use Rattle.error_reports.specs.NoteLaws.{carried_alike, each_kind}
use Rattle.error_reports.proofs.row_builder.RowBuilder.carry_all.Goals as goal

pub returns : goal.returns
returns g c =
    let accused = c.args.accused.now in
    let kind = c.args.kind in
    c.carry_each.ensures.row (λ j. if has_id accused j then Some kind else None) (λ j x low used other ran. search rules)
    ∙ carried_alike g.row.N c.args.self.now (λ j k. is_kind (if has_id accused j then Some kind else None) k) (of_each accused kind)
    (λ j k low used other within. each_kind accused kind j k)
