use Rattle.worked_runs.proofs.Convicted.{as_many_as_may_lie_convict_nobody-classes, as_many_as_may_lie_convict_nobody-rows, as_many_as_may_lie_convict_nobody-counts}
use Rattle.worked_runs.proofs.as_many_as_may_lie_convict_nobody.Goals as goal

pub returns-clause-classes : goal.returns-clause-classes
returns-clause-classes c = as_many_as_may_lie_convict_nobody-classes

pub returns-clause-rows : goal.returns-clause-rows
returns-clause-rows c = as_many_as_may_lie_convict_nobody-rows

pub returns-clause-counts : goal.returns-clause-counts
returns-clause-counts c = as_many_as_may_lie_convict_nobody-counts
