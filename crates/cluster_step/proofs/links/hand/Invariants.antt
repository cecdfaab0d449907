use Rattle.std.proofs.Common.{◌≡◌, map, replicate}
use Rattle.cluster_periods.specs.Slots.{arriving, handed}
use Rattle.cluster_step.proofs.links.hand.Given as goal

abbrev pub invariant-loop : goal.invariant-loop
invariant-loop g l = l.node ≡ handed l.initial.node (map (arriving l.from) (replicate l.counter (l.arrived.tick, l.arrived.bytes.now)))
