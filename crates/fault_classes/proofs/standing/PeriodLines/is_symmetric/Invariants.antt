use Rattle.std.proofs.Common.{◌≡◌, ℕ, ◌<◌, true}
use Rattle.fault_classes.specs.Plan.{is_symmetric_at}
use Rattle.fault_classes.proofs.standing.PeriodLines.is_symmetric.Given as goal

abbrev pub invariant-loop-slot : goal.invariant-loop-slot
invariant-loop-slot g l = (k : ℕ) → k < l.slot → is_symmetric_at l.self.index.now l.self.period l.node k ≡ true
