use Rattle.std.proofs.Common.{◌≡◌}
use Rattle.error_reports.specs.Notes.{also_carried}
use Rattle.item_phase.specs.Noted.{found_below, of_node, rounds_of}
use Rattle.item_phase.proofs.item_phase.ItemPhase.carry_of.Given as goal

abbrev pub invariant-loop-round : goal.invariant-loop-round
invariant-loop-round g l = l.notes ≡ also_carried g.row.N l.initial.notes (of_node l.j (found_below l.round (rounds_of g.V.Item.form l.phase l.self.links l.i)))
