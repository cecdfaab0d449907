use Rattle.worked_runs.proofs.Halving.{starts_apart-classes, starts_apart-owns, starts_apart-others, starts_apart-bounds}
use Rattle.worked_runs.proofs.values_are_halved_beside_a_liar.Goals as goal

pub returns-clause-classes : goal.returns-clause-classes
returns-clause-classes c = starts_apart-classes

pub returns-clause-owns : goal.returns-clause-owns
returns-clause-owns c = starts_apart-owns

pub returns-clause-others : goal.returns-clause-others
returns-clause-others c = starts_apart-others

pub returns-clause-bounds : goal.returns-clause-bounds
returns-clause-bounds c = starts_apart-bounds
