use Rattle.node_grid.specs.SetFacts.{next_on}
use Rattle.worked_chains.proofs.count_phase.Goals as goal

pub item-drawn-requires : goal.item-drawn-requires
item-drawn-requires c =
    next_on c.nodes-nodes.result.members c.loop-commander.yielded c.next.new.self c.loop-commander.commander-iterator c.in-Some.commander c.loop-commander.invariant.split c.in-Some.ensures.steps
