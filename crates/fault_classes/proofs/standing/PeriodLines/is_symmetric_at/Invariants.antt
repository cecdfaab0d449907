use Rattle.std.proofs.Common.{◌≡◌, ℕ, ◌<◌, true, ◌||◌}
use Rattle.std.specs.Prelude.{◌==◌}
use Rattle.fault_classes.specs.Change.{same_effect}
use Rattle.fault_classes.specs.Line.{effect_at}
use Rattle.fault_classes.proofs.standing.PeriodLines.is_symmetric_at.Given as goal

abbrev pub invariant-loop-to : goal.invariant-loop-to
invariant-loop-to g l = (k : ℕ) → k < l.to → (k == l.node || same_effect (effect_at l.self.index.now.lines l.self.period l.slot l.node l.first) (effect_at l.self.index.now.lines l.self.period l.slot l.node k)) ≡ true
