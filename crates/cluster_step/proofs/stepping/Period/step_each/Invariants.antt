use Rattle.std.proofs.Common.{◌≡◌, ◌++◌, [], take, drop, map}
use Rattle.std.specs.Prelude.{slice_index_or}
use Rattle.cluster_periods.specs.Slots.{through_slot}
use Rattle.cluster_step.proofs.stepping.Period.step_each.Given as goal

abbrev pub invariant-loop-node : goal.invariant-loop-node
invariant-loop-node g l =
    let sc = l.self.scenario.now in
    l.nodes ≡ map (through_slot sc.plan sc.order sc.config.nodes l.self.number l.slot (slice_index_or l.shown.sent l.slot [])) (take l.node-index l.initial.nodes) ++ drop l.node-index l.initial.nodes
