use Rattle.std.proofs.Common.{◌≡◌}
use Rattle.cluster_periods.specs.Periods.{slots_from}
use Rattle.cluster_step.proofs.Slotting.{HasTaken}
use Rattle.cluster_step.proofs.stepping.Period.step.Given as goal

abbrev pub invariant-loop-slot : goal.invariant-loop-slot
invariant-loop-slot g l =
    (l.nodes ≡ slots_from l.self.scenario.now.plan l.self.scenario.now.order l.self.scenario.now.config.nodes l.self.number 0 l.slot l.initial.nodes) × HasTaken l.self.scenario.now l.self.number l.slot l.initial.shown l.shown
