use Rattle.std.proofs.Common.{◌≡◌}
use Rattle.node_grid.specs.Class.{is_sound}
use Rattle.node_grid.specs.NodeSet.{ids_where_below}
use Rattle.run_judged.specs.Found.{class_at}
use Rattle.run_judged.proofs.findings.sound_nodes.Given as goal

abbrev pub invariant-loop-node : goal.invariant-loop-node
invariant-loop-node g l = l.sound ≡ ids_where_below (λ j. is_sound (class_at l.seen.shown.now.head.classes j)) g.row.N l.node
