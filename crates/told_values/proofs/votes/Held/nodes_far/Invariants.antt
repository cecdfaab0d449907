use Rattle.std.proofs.Common.{◌≡◌}
use Rattle.node_grid.specs.NodeSet.{ids_where_below}
use Rattle.mme_vote.specs.Channel.{delta_of}
use Rattle.protocol.specs.View.{is_far}
use Rattle.data_slot.specs.Told.{value_told}
use Rattle.told_values.proofs.votes.Held.nodes_far.Given as goal

abbrev pub invariant-loop-node : goal.invariant-loop-node
invariant-loop-node g l = l.far ≡ ids_where_below (λ j. is_far (delta_of l.channel) (value_told l.self.told.now j l.c) l.vote) g.row.N l.node
