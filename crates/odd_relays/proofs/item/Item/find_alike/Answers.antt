use Rattle.std.proofs.Common.{sym, ◌∙◌}
use Rattle.node_grid.specs.SetFacts.{next_on}
use Rattle.odd_relays.proofs.item.Item.find_alike.Goals as goal

pub returns-then-is_alike-clause-node : goal.returns-then-is_alike-clause-node
returns-then-is_alike-clause-node g c = next_on c.args.nodes.now c.loop-j.yielded c.next.new.self c.loop-j.j-iterator c.in-Some.j c.loop-j.invariant.split c.in-Some.ensures.steps

pub returns-then-is_alike-clause-alike : goal.returns-then-is_alike-clause-alike
returns-then-is_alike-clause-alike g c = record {
  relayed = c.requires.relayed;
  first = c.requires.regular;
  second = sym c.has.ensures ∙ c.if-not-has.true;
  says = c.is_alike.ensures c.if-is_alike.true;
}
