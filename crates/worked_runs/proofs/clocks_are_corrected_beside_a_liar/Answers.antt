use Rattle.worked_runs.proofs.Clocked.{clocks_are_corrected_beside_a_liar-classes, clocks_are_corrected_beside_a_liar-sync, clocks_are_corrected_beside_a_liar-corrections, clocks_are_corrected_beside_a_liar-offsets}
use Rattle.worked_runs.proofs.clocks_are_corrected_beside_a_liar.Goals as goal

pub returns-clause-classes : goal.returns-clause-classes
returns-clause-classes c = clocks_are_corrected_beside_a_liar-classes

pub returns-clause-sync : goal.returns-clause-sync
returns-clause-sync c = clocks_are_corrected_beside_a_liar-sync

pub returns-clause-corrections : goal.returns-clause-corrections
returns-clause-corrections c = clocks_are_corrected_beside_a_liar-corrections

pub returns-clause-offsets : goal.returns-clause-offsets
returns-clause-offsets c = clocks_are_corrected_beside_a_liar-offsets
