use Rattle.std.proofs.Common.{◌≡◌, ◌&&◌, ◌==◌, not}
use Rattle.node_grid.specs.NodeSet.{ids_where_below}
use Rattle.error_detect.specs.Finding.{is_good_at}
use Rattle.noting.proofs.findings.good_senders.Given as goal

abbrev pub invariant-loop-node : goal.invariant-loop-node
invariant-loop-node g l = l.good ≡ ids_where_below (λ j. not (j == l.me) && is_good_at l.found j) g.row.N l.node
