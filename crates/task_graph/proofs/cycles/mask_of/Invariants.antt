use Rattle.std.proofs.Common.{◌≡◌, ℕ, ◌<◌, take}
use Rattle.node_grid.specs.NodeSet.{has_id}
use Rattle.task_graph.specs.Reach.{has_bit}
use Rattle.task_graph.proofs.cycles.mask_of.Given as goal

abbrev pub invariant-loop-t : goal.invariant-loop-t
invariant-loop-t l = (u : ℕ) → u < 32 → has_bit l.mask u ≡ has_id (take l.t-index l.tasks) u
