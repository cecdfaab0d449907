use Rattle.std.proofs.Common.{ℕ, ◌<◌, ◌+◌, Bool, List, length, sym, ap, subst, ◌∙◌, arith}
use Rattle.node_grid.specs.ListFacts.{same_at}
use Rattle.error_reports.specs.Notes.{Notes, also_noted}
use Rattle.view_law.specs.Made.{by_verdicts}
use Rattle.grouped_nodes.specs.Shared.{no_notes}
use Rattle.grouped_nodes.proofs.Completion.{AreMore, more_put, more_skip}
use Rattle.grouped_nodes.proofs.completing.note_on.Goals.{then-has, else-has}
use Rattle.grouped_nodes.proofs.completing.note_on.Goals as goal

pub loop-i-preserved : goal.loop-i-preserved
loop-i-preserved g c =
    let nodes : List ℕ = c.args.nodes.now in
    let old : List Notes = c.args.notes.now in
    let xs : List Notes = c.loop-i.notes in
    let i : ℕ = c.loop-i.i in
    let more : ℕ → ℕ → Bool = by_verdicts c.args.judged.now in
    let low : i < g.row.N = c.loop-i-test.true in
    let room : i < length xs = (let w = c.loop-i.invariant.wide in omega arith) in
    elim c.if-has.branch [
      | then-has w ↦
          subst (AreMore g.row.N nodes more old (i + 1)) (sym w.notes-is)
          (more_put g.row.N nodes more old i xs w.note_verdicts.new.notes low (sym c.has.ensures ∙ w.if-has.true) c.loop-i.invariant
          (w.note_verdicts.ensures ∙ ap (λ (n : Notes). also_noted g.row.N n more) (same_at xs i w.index-notes-i.result no_notes room)))
      | else-has w ↦ subst (AreMore g.row.N nodes more old (i + 1)) (sym w.notes-is) (more_skip g.row.N nodes more old i xs (sym c.has.ensures ∙ w.if-has.false) c.loop-i.invariant)
    ]

pub bounds-notes-i : goal.bounds-notes-i
bounds-notes-i g c = let w = c.loop-i.invariant.wide in let t = c.loop-i-test.true in omega arith
