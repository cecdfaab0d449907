use Rattle.std.proofs.Common.{◌≡◌, ◌&&◌, ◌==◌, not}
use Rattle.node_grid.specs.NodeSet.{ids_where_below}
use Rattle.data_slot.specs.Votes.{is_off}
use Rattle.data_slot.proofs.vote.DataSlot.deviating.Given as goal

abbrev pub invariant-loop-node : goal.invariant-loop-node
invariant-loop-node g l = l.off ≡ ids_where_below (λ j. not (j == l.self.me) && is_off l.config l.self.due.now l.told l.votes j) g.row.N l.node
