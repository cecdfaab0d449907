use Rattle.std.proofs.Common.{◌≡◌, None}
use Rattle.std.specs.List.{filter_map}
use Rattle.node_grid.specs.NodeSet.{ids_below}
use Rattle.shown_period.specs.Whole.{record_of}
use Rattle.run_judged.specs.Apart.{range_with, offset_in}
use Rattle.run_judged.proofs.apart.clocks_apart.Given as goal

abbrev pub invariant-loop-node : goal.invariant-loop-node
invariant-loop-node g l = l.range ≡ range_with None (filter_map (offset_in (record_of l.seen.shown.now)) (ids_below l.node))
