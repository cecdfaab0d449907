use Rattle.std.proofs.Common.{◌≡◌, take}
use Rattle.node_grid.specs.NodeSet.{ids_where}
use Rattle.data_slot.specs.Votes.{is_off}
use Rattle.told_values.proofs.votes.Held.nodes_off.Given as goal

abbrev pub invariant-loop-k : goal.invariant-loop-k
invariant-loop-k g l = l.off ≡ ids_where (is_off l.self.config.now (take l.k l.due) l.self.told.now l.self.votes.now) l.self.config.now.nodes
