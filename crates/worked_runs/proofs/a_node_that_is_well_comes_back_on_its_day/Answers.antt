use Rattle.worked_runs.proofs.Returning.{restarted_and_well-classes, restarted_and_well-rows, restarted_and_well-counts, restarted_and_well-members, restarted_and_well-day}
use Rattle.worked_runs.proofs.a_node_that_is_well_comes_back_on_its_day.Goals as goal

pub returns-clause-classes : goal.returns-clause-classes
returns-clause-classes c = restarted_and_well-classes

pub returns-clause-rows : goal.returns-clause-rows
returns-clause-rows c = restarted_and_well-rows

pub returns-clause-counts : goal.returns-clause-counts
returns-clause-counts c = restarted_and_well-counts

pub returns-clause-members : goal.returns-clause-members
returns-clause-members c = restarted_and_well-members

pub returns-clause-day : goal.returns-clause-day
returns-clause-day c = restarted_and_well-day
