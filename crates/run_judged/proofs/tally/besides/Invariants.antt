use Rattle.std.proofs.Common.{◌≡◌, ◌≤◌, ◌&&◌, not}
use Rattle.node_grid.specs.NodeSet.{ids_below, has_id}
use Rattle.node_grid.specs.Count.{count}
use Rattle.run_judged.proofs.tally.besides.Given as goal

abbrev pub invariant-loop-node : goal.invariant-loop-node
invariant-loop-node g l = record {
  counted : l.besides ≡ count (λ j. has_id l.one j && not (has_id l.other j)) (ids_below l.node);
  few : l.besides ≤ l.node;
}
