use Rattle.view_law.specs.Made.{by_verdicts}
use Rattle.grouped_nodes.proofs.Completion.{AreMore}
use Rattle.grouped_nodes.proofs.completing.note_on.Given as goal

abbrev pub invariant-loop-i : goal.invariant-loop-i
invariant-loop-i g l = AreMore g.row.N l.nodes (by_verdicts l.judged) l.fn.notes l.i l.notes
