use Rattle.std.proofs.Common.{ℕ, Bool, sym, ◌∙◌, inl, inr}
use Rattle.std.proofs.lemmas.Bool.{cases_Bool, cond-true, cond-false}
use Rattle.node_grid.specs.NodeSet.{has_id}
use Rattle.error_reports.specs.Notes.{Notes, also_noted}
use Rattle.view_law.specs.Made.{by_verdicts}
use Rattle.view_law.proofs.Rows.{nothing_noted}
use Rattle.grouped_nodes.specs.Shared.{notes_at}
use Rattle.grouped_nodes.proofs.Completion.{says_nothing}
use Rattle.grouped_nodes.proofs.completing.note_all.Goals as goal

pub returns-else-blames_any-clause-notes : goal.returns-else-blames_any-clause-notes
returns-else-blames_any-clause-notes g c i low =
    let n : Notes = notes_at c.args.notes.now i in
    let more : ℕ → ℕ → Bool = by_verdicts c.args.judged.now in
    let among : Bool = has_id c.args.nodes.now i in
    elim (cases_Bool among) [
      | inl on ↦
          sym (cond-true among (also_noted g.row.N n more) n on
          ∙ nothing_noted g.row.N n more (c.requires.within i low on) (λ j e low_j used ne within. says_nothing c.args.judged.now j e (c.blames_any.ensures c.if-blames_any.false j low_j)))
      | inr off ↦ sym (cond-false among (also_noted g.row.N n more) n off)
    ]
