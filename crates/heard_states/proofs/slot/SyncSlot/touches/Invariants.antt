use Rattle.std.proofs.Common.{◌≡◌, ◌≢◌, ℕ, ◌<◌, None}
use Rattle.fault_classes.specs.Line.{effect_at}
use Rattle.heard_states.proofs.slot.SyncSlot.touches.Given as goal

abbrev pub invariant-loop-to : goal.invariant-loop-to
invariant-loop-to g l = (i : ℕ) → i < l.to → l.from ≢ i → effect_at l.self.plan.now.lines l.self.period 0 l.from i ≡ None
