use Rattle.told_values.specs.Slot.{slot_of}
use Rattle.at_once.proofs.Voting.{AreNotedBelow}
use Rattle.at_once.proofs.values.note_each.Given as goal

abbrev pub invariant-loop-i : goal.invariant-loop-i
invariant-loop-i g l = AreNotedBelow (slot_of g.D.Dues.dues l.slot) l.awake l.off l.fn.notes l.i l.notes
