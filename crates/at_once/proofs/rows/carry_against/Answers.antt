use Rattle.std.proofs.Common.{◌≡◌, ◌==◌, ◌&&◌, List, [], ℕ, sym, ap}
use Rattle.node_grid.specs.NodeSet.{has_id}
use Rattle.node_grid.specs.Kinds.{equivocate}
use Rattle.error_reports.specs.Notes.{of_each}
use Rattle.view_law.proofs.Rows.{nothing_carried}
use Rattle.at_once.proofs.rows.carry_against.Goals as goal

pub returns-else-not-is_empty : goal.returns-else-not-is_empty
returns-else-not-is_empty g c =
    let none : c.args.against.now ≡ [] = c.is_empty.ensures.0 c.if-not-is_empty.false in
    sym (nothing_carried g.row.N c.args.notes.now (of_each c.args.against.now equivocate) c.requires (λ j e low used other kind. ap (λ (s : List ℕ). has_id s j && e == equivocate) none))
