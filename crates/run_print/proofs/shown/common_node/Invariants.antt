use Rattle.std.proofs.Common.{◌<◌, ◌≤◌}
use Rattle.run_print.proofs.shown.common_node.Given as goal

abbrev pub invariant-loop-i : goal.invariant-loop-i
invariant-loop-i g l = record {
  node : l.node < g.row.N;
  few : l.lead ≤ l.i;
}
