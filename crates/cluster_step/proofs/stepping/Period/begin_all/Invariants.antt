use Rattle.std.proofs.Common.{◌≡◌, ◌++◌, take, drop, map}
use Rattle.cluster_periods.specs.Periods.{begun_by}
use Rattle.cluster_step.proofs.stepping.Period.begin_all.Given as goal

abbrev pub invariant-loop-node : goal.invariant-loop-node
invariant-loop-node g l = l.nodes ≡ map (begun_by l.self.scenario.now l.self.number) (take l.node-index l.initial.nodes) ++ drop l.node-index l.initial.nodes
