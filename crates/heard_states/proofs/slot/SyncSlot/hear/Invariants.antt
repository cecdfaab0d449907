use Rattle.heard_states.proofs.Slots.{IsHeardTo}
use Rattle.heard_states.proofs.slot.SyncSlot.hear.Given as goal

abbrev pub invariant-loop-i : goal.invariant-loop-i
invariant-loop-i g l = IsHeardTo l.self l.senders.full l.initial.states l.initial.notes l.i l.states l.notes l.heard
