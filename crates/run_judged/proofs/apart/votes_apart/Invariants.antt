use Rattle.std.proofs.Common.{◌≡◌, None}
use Rattle.std.specs.List.{filter_map}
use Rattle.node_grid.specs.NodeSet.{ids_below}
use Rattle.shown_period.specs.Whole.{record_of}
use Rattle.run_judged.specs.Apart.{range_with, vote_in}
use Rattle.run_judged.proofs.apart.votes_apart.Given as goal

abbrev pub invariant-loop-node : goal.invariant-loop-node
invariant-loop-node g l = l.range ≡ range_with None (filter_map (vote_in (record_of l.seen.shown.now) l.channel) (ids_below l.node))
