use Rattle.std.proofs.Common.{◌≤◌, length, arith}
use Rattle.node_grid.specs.NodeSetLaws.{length-ids}
use Rattle.node_grid.specs.NumberFacts.{small_power}
use Rattle.omh_paths.specs.MemberLaws.{path_count-le}
use Rattle.touched_items.proofs.due.entries_due.Goals as goal

pub count_paths-requires-clause-nodes : goal.count_paths-requires-clause-nodes
count_paths-requires-clause-nodes g c =
    let few : length c.args.expect.now.members ≤ g.row.N = length-ids g.row.N c.args.expect.now.members c.len.ensures.ids in
    grind (arith, g.bound-1.eight_or_sixteen)

pub returns-then-has-clause-few : goal.returns-then-has-clause-few
returns-then-has-clause-few g c =
    let few : length c.args.expect.now.members ≤ g.row.N = length-ids g.row.N c.args.expect.now.members c.len.ensures.ids in
    let less : c.saturating_sub.result ≤ 16 = grind (arith, g.bound-1.eight_or_sixteen) in
    let short : c.round_of.result ≤ 3 = omega (arith, c.requires.round) in
    omega (arith, path_count-le c.saturating_sub.result c.round_of.result less, small_power c.round_of.result short)
