use Rattle.std.proofs.Common.{ℕ, List, ap, sym, subst, ◌∙◌}
use Rattle.error_reports.specs.Notes.{Notes, is_kind, also_carried, GivesKinds}
use Rattle.error_reports.proofs.row_builder.RowBuilder.carry_each.Goals as goal

pub returns-clause-row : goal.returns-clause-row
returns-clause-row g c = λ gives are.
    let n = c.self.inside in
    let seen : Notes = record { nodes = n.nodes; me = n.me; kinds = n.kinds; row = n.row; carried = n.carried } in
    ap (λ (row : List ℕ). record seen { carried = row })
    (c.besides-self-inside.ensures gives (subst (λ (v : Notes). GivesKinds (goal.F-post g c.args.kind_of) g.row.N v.nodes v.me gives) (sym c.self.view_is) are))
    ∙ ap (λ (v : Notes). also_carried g.row.N v (λ j k. is_kind (gives j) k)) c.self.view_is
