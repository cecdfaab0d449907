use Rattle.std.specs.Prelude.{nat_eq}
use Rattle.error_reports.specs.Notes.{also_noted}
use Rattle.protocol.specs.Arrival.{claim_form}
use Rattle.item_phase.specs.Settled.{listener}
use Rattle.at_once.specs.Phases.{blames}
use Rattle.at_once.proofs.NodeNotes.{AreMore}
use Rattle.at_once.proofs.claims.note_convicted.Given as goal

abbrev pub invariant-loop-i : goal.invariant-loop-i
invariant-loop-i g l = AreMore g.row.N l.phase.awake (λ k y. also_noted g.row.N y (blames nat_eq (listener claim_form l.phase l.claims.links k))) l.fn.notes l.i l.notes
