use Rattle.std.proofs.Common.{lit<}
use Rattle.agreed_state.proofs.Pieces.{capacity_small}
use Rattle.agreed_state.specs.ConfigLaws.{few_rounds}
use Rattle.agreed_state.proofs.config.Config.expect.Goals as goal

pub number-requires-clause-rounds : goal.number-requires-clause-rounds
number-requires-clause-rounds g c = few_rounds g.row.N c.args.self.now c.requires.config

pub number-requires-clause-slot : goal.number-requires-clause-slot
number-requires-clause-slot g c = tt

pub number-requires-2-clause-rounds : goal.number-requires-2-clause-rounds
number-requires-2-clause-rounds g c = few_rounds g.row.N c.args.self.now c.requires.config

pub number-requires-2-clause-slot : goal.number-requires-2-clause-slot
number-requires-2-clause-slot g c = tt

pub empty-requires : goal.empty-requires
empty-requires g c = (lit< tt, capacity_small g.row.N g.bound-1.eight_or_sixteen)

pub len-requires : goal.len-requires
len-requires g c = lit< tt
