use Rattle.std.proofs.Common.{◌≡◌, ℕ, ◌<◌, true}
use Rattle.fault_classes.specs.Change.{is_manifest}
use Rattle.fault_classes.specs.Plan.{each_in_slot}
use Rattle.fault_classes.proofs.standing.PeriodLines.is_benign.Given as goal

abbrev pub invariant-loop-slot : goal.invariant-loop-slot
invariant-loop-slot g l = (k : ℕ) → k < l.slot → each_in_slot l.self.index.now is_manifest l.self.period l.node k ≡ true
