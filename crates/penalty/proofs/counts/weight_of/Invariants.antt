use Rattle.std.proofs.Common.{◌≡◌, ◌≤◌, ◌*◌}
use Rattle.std.proofs.Common.{◌==◌, cond, get_or}
use Rattle.std.specs.List.{sum_by}
use Rattle.std.specs.Int.{bit_at}
use Rattle.node_grid.specs.NodeSet.{ids_below}
use Rattle.penalty.proofs.counts.weight_of.Given as goal

abbrev pub invariant-loop-kind : goal.invariant-loop-kind
invariant-loop-kind l = record {
  so_far : l.sum ≡ sum_by (λ k. cond (bit_at l.charged k == 1) (get_or l.policy.weights k 0) 0) (ids_below l.kind);
  bound : l.sum ≤ 65535 * l.kind;
}
