use Rattle.std.proofs.Common.{sym, ◌∙◌}
use Rattle.node_grid.specs.NodeSet.{without_id}
use Rattle.worked_alike.proofs.Rounds.{came_more}
use Rattle.worked_alike.proofs.relays.Relays.take.Goals as goal

pub invariant_of-self-clause-others : goal.invariant_of-self-clause-others
invariant_of-self-clause-others c =
    let self = c.args.self.now in
    came_more (without_id self.seat.members self.seat.me) self.came c.put.new.self c.args.sender c.put.ensures (sym c.is_other.ensures.is ∙ c.if-is_other.true) self.others
