use Rattle.error_reports.specs.Notes.{also_noted}
use Rattle.protocol.specs.Arrival.{claim_form}
use Rattle.protocol.specs.Heard.{rounds_bad}
use Rattle.item_phase.specs.Noted.{rounds_of}
use Rattle.at_once.proofs.NodeNotes.{AreMore}
use Rattle.at_once.proofs.claims.note_frames.Given as goal

abbrev pub invariant-loop-i : goal.invariant-loop-i
invariant-loop-i g l = AreMore g.row.N l.phase.awake (λ k y. also_noted g.row.N y (rounds_bad l.phase.config.now.m (rounds_of claim_form l.phase l.claims.links k))) l.fn.notes l.i l.notes
