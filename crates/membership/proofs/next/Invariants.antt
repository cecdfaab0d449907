use Rattle.std.proofs.Common.{◌≡◌, get_or}
use Rattle.node_grid.specs.NodeSet.{ids_where_below}
use Rattle.membership.specs.Members.{stays, left_after}
use Rattle.membership.proofs.next.Given as goal

abbrev pub invariant-loop-node : goal.invariant-loop-node
invariant-loop-node g l = record {
  members : l.next ≡ ids_where_below (stays l.policy l.members (λ j. get_or l.counts.counts j 0) (λ j. get_or l.fn.left.times j 0)) g.row.N l.node;
  left : l.left.times ≡ left_after l.policy l.node l.members (λ j. get_or l.counts.counts j 0) l.fn.left.times;
}
