use Rattle.told_values.specs.Slot.{slot_of}
use Rattle.told_values.proofs.Telling.{AreToldBelow}
use Rattle.told_values.proofs.listener.Listener.told_alike.Given as goal

abbrev pub invariant-loop-from : goal.invariant-loop-from
invariant-loop-from g l = AreToldBelow (slot_of g.D.Dues.dues l.self.slot.now) l.self.node l.own l.from l.told
