use Rattle.worked_runs.proofs.Settling.{no_values_of_3-classes, no_values_of_3-offsets, no_values_of_3-others, no_values_of_3-bounds}
use Rattle.worked_runs.proofs.clocks_settle_beside_a_liar.Goals as goal

pub returns-clause-classes : goal.returns-clause-classes
returns-clause-classes c = no_values_of_3-classes

pub returns-clause-offsets : goal.returns-clause-offsets
returns-clause-offsets c = no_values_of_3-offsets

pub returns-clause-others : goal.returns-clause-others
returns-clause-others c = no_values_of_3-others

pub returns-clause-bounds : goal.returns-clause-bounds
returns-clause-bounds c = no_values_of_3-bounds
