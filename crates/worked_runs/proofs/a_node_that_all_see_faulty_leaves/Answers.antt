use Rattle.worked_runs.proofs.Leaving.{seen_alike-classes, seen_alike-rows, seen_alike-members}
use Rattle.worked_runs.proofs.a_node_that_all_see_faulty_leaves.Goals as goal

pub returns-clause-classes : goal.returns-clause-classes
returns-clause-classes c = seen_alike-classes

pub returns-clause-rows : goal.returns-clause-rows
returns-clause-rows c = seen_alike-rows

pub returns-clause-members : goal.returns-clause-members
returns-clause-members c = seen_alike-members
