use Rattle.std.proofs.Common.{◌≡◌, ℕ, ◌<◌, true, ◌||◌}
use Rattle.std.specs.Prelude.{◌==◌}
use Rattle.fault_classes.specs.Change.{is_manifest}
use Rattle.fault_classes.specs.Line.{effect_at}
use Rattle.fault_classes.proofs.standing.PeriodLines.is_benign_at.Given as goal

abbrev pub invariant-loop-to : goal.invariant-loop-to
invariant-loop-to g l = (k : ℕ) → k < l.to → (k == l.node || is_manifest (effect_at l.self.index.now.lines l.self.period l.slot l.node k)) ≡ true
