use Rattle.std.proofs.Common.{◌≡◌, ◌++◌}
use Rattle.error_reports.specs.Notes.{also_noted}
use Rattle.protocol.specs.Heard.{rounds_bad}
use Rattle.item_phase.specs.Noted.{rounds_of}
use Rattle.item_phase.proofs.RoundNotes.{of_nodes}
use Rattle.item_phase.proofs.item_phase.ItemPhase.note.Given as goal

abbrev pub invariant-loop-j : goal.invariant-loop-j
invariant-loop-j g l = record {
  can : (goal.iterator-loop-j g).can_next l.j-iterator;
  ends : (goal.iterator-loop-j g).is_finite l.j-iterator;
  split : l.self.seen.ill ≡ l.yielded ++ l.j-iterator;
  notes : l.notes ≡ also_noted g.row.N l.initial.notes (of_nodes l.yielded (rounds_bad l.phase.config.now.m (rounds_of g.V.Item.form l.phase l.self.links l.i)));
}
