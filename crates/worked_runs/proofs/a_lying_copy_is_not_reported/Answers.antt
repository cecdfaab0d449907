use Rattle.worked_runs.proofs.Grouped.{a_lying_copy_is_not_reported-classes, a_lying_copy_is_not_reported-votes, a_lying_copy_is_not_reported-rows, a_lying_copy_is_not_reported-counts}
use Rattle.worked_runs.proofs.a_lying_copy_is_not_reported.Goals as goal

pub returns-clause-classes : goal.returns-clause-classes
returns-clause-classes c = a_lying_copy_is_not_reported-classes

pub returns-clause-votes : goal.returns-clause-votes
returns-clause-votes c = a_lying_copy_is_not_reported-votes

pub returns-clause-rows : goal.returns-clause-rows
returns-clause-rows c = a_lying_copy_is_not_reported-rows

pub returns-clause-counts : goal.returns-clause-counts
returns-clause-counts c = a_lying_copy_is_not_reported-counts
