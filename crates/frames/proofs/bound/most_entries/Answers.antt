use Rattle.std.proofs.Common.{◌-◌, arith}
use Rattle.node_grid.specs.NumberFacts.{small_power}
use Rattle.omh_paths.specs.MemberLaws.{path_count-le}
use Rattle.frames.proofs.bound.most_entries.Goals as goal

pub returns-else-m-eq0-clause-few : goal.returns-else-m-eq0-clause-few
returns-else-m-eq0-clause-few c = omega (arith, path_count-le (c.args.nodes - 1) c.args.m (omega (arith, c.requires.nodes)), small_power c.args.m c.requires.rounds)
