use Rattle.std.proofs.Common.{◌≡◌, true, take}
use Rattle.std.specs.List.{list_all}
use Rattle.node_grid.specs.NodeSet.{has_id}
use Rattle.heard_links.proofs.phase.Phase.is_within.Given as goal

abbrev pub invariant-loop-k : goal.invariant-loop-k
invariant-loop-k g l = list_all (has_id l.members) (take l.k l.path) ≡ true
