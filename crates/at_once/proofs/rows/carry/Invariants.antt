use Rattle.std.proofs.Common.{◌==◌}
use Rattle.std.specs.Cmp.Lexicographic.{pointwise}
use Rattle.error_reports.specs.Notes.{also_carried}
use Rattle.protocol.specs.Arrival.{row_form}
use Rattle.protocol.specs.Heard.{rounds_bad}
use Rattle.item_phase.specs.Settled.{listener}
use Rattle.item_phase.specs.Noted.{rounds_of}
use Rattle.at_once.specs.Phases.{blames}
use Rattle.at_once.proofs.NodeNotes.{AreMore}
use Rattle.at_once.proofs.rows.carry.Given as goal

abbrev pub invariant-loop-i : goal.invariant-loop-i
invariant-loop-i g l = AreMore g.row.N l.phase.awake (λ k y. also_carried g.row.N (also_carried g.row.N y (rounds_bad l.phase.config.now.m (rounds_of row_form l.phase l.rows.links k))) (blames (pointwise ◌==◌) (listener row_form l.phase l.rows.links k))) l.fn.notes l.i l.notes
