use Rattle.std.proofs.Common.{◌-◌, refl, arith}
use Rattle.node_grid.specs.CapacityLaws.{capacity-le}
use Rattle.node_grid.specs.NodeSetLaws.{length-ids}
use Rattle.node_grid.specs.SetFacts.{member-lt}
use Rattle.settled_paths.proofs.Places.{first_few, level_is}
use Rattle.settled_paths.proofs.exchange.Exchange.level.Goals as goal

pub count_paths-paths-requires-clause-nodes : goal.count_paths-paths-requires-clause-nodes
count_paths-paths-requires-clause-nodes g c =
    omega (arith, c.len-others.ensures.count, length-ids g.row.N c.args.self.now.members c.len-others.ensures.ids, capacity-le g.row.N c.requires.exchange.capacity_ok)

pub level_at-requires-clause-others : goal.level_at-requires-clause-others
level_at-requires-clause-others g c =
    omega (arith, c.len-others.ensures.count, length-ids g.row.N c.args.self.now.members c.len-others.ensures.ids, capacity-le g.row.N c.requires.exchange.capacity_ok)

pub place-requires : goal.place-requires
place-requires g c = (omega arith, member-lt g.row.N c.args.self.now.members c.args.self.now.commander c.len-others.ensures.ids c.requires.exchange.member_ok)

pub overflow_mul-result : goal.overflow_mul-result
overflow_mul-result g c =
    let s = c.args.self.now in
    let few = first_few g.row.N s.rounds s.members s.commander c.place.result (c.len-others.result - 1) c.args.relays c.count_paths-paths.result c.requires.exchange c.len-others.ensures.ids c.place.ensures.count (omega (arith, c.len-others.ensures.count)) c.requires.few c.count_paths-paths.ensures.product in
    omega (arith, few.1)

pub returns : goal.returns
returns g c =
    let s = c.args.self.now in
    level_is g.row.N s.rounds s.members s.commander c.place.result (c.len-others.result - 1) c.args.relays _ c.requires.exchange c.len-others.ensures.ids c.place.ensures.count (omega (arith, c.len-others.ensures.count)) c.requires.few c.count_paths-paths.ensures.product refl c.level_at.ensures.begins c.level_at.ensures.small
