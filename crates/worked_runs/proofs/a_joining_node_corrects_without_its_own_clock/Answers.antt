use Rattle.worked_runs.proofs.Clocked.{a_joining_node_corrects_without_its_own_clock-modes, a_joining_node_corrects_without_its_own_clock-sync, a_joining_node_corrects_without_its_own_clock-corrections, a_joining_node_corrects_without_its_own_clock-offsets}
use Rattle.worked_runs.proofs.a_joining_node_corrects_without_its_own_clock.Goals as goal

pub returns-clause-modes : goal.returns-clause-modes
returns-clause-modes c = a_joining_node_corrects_without_its_own_clock-modes

pub returns-clause-sync : goal.returns-clause-sync
returns-clause-sync c = a_joining_node_corrects_without_its_own_clock-sync

pub returns-clause-corrections : goal.returns-clause-corrections
returns-clause-corrections c = a_joining_node_corrects_without_its_own_clock-corrections

pub returns-clause-offsets : goal.returns-clause-offsets
returns-clause-offsets c = a_joining_node_corrects_without_its_own_clock-offsets
