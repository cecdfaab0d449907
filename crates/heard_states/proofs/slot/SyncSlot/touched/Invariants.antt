use Rattle.std.proofs.Common.{◌≡◌, ◌≢◌, ℕ, ◌<◌, false, None}
use Rattle.node_grid.specs.NodeSet.{has_id}
use Rattle.fault_classes.specs.Line.{effect_at}
use Rattle.heard_states.proofs.slot.SyncSlot.touched.Given as goal

abbrev pub invariant-loop-from : goal.invariant-loop-from
invariant-loop-from g l = (j i : ℕ) → j < l.from → i < l.self.config.now.nodes → j ≢ i → has_id l.touched j ≡ false → effect_at l.self.plan.now.lines l.self.period 0 j i ≡ None
