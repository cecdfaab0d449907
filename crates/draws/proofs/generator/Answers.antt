use Rattle.draws.specs.Draws.{generator_of}
use Rattle.draws.proofs.generator.Goals as goal

pub returns : goal.returns
unfolding generator_of
returns c = c.seed_from_u64.ensures
