use Rattle.worked_runs.proofs.Leaving.{silent_on_end-classes, silent_on_end-claimed, silent_on_end-counts, silent_on_end-members}
use Rattle.worked_runs.proofs.a_silent_node_leaves_on_its_day.Goals as goal

pub returns-clause-classes : goal.returns-clause-classes
returns-clause-classes c = silent_on_end-classes

pub returns-clause-claimed : goal.returns-clause-claimed
returns-clause-claimed c = silent_on_end-claimed

pub returns-clause-counts : goal.returns-clause-counts
returns-clause-counts c = silent_on_end-counts

pub returns-clause-members : goal.returns-clause-members
returns-clause-members c = silent_on_end-members
