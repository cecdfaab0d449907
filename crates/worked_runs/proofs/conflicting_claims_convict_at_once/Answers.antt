use Rattle.worked_runs.proofs.Convicted.{conflicting_claims_convict_at_once-done, conflicting_claims_convict_at_once-rows, conflicting_claims_convict_at_once-counts}
use Rattle.worked_runs.proofs.conflicting_claims_convict_at_once.Goals as goal

pub returns-clause-done : goal.returns-clause-done
returns-clause-done c = conflicting_claims_convict_at_once-done

pub returns-clause-rows : goal.returns-clause-rows
returns-clause-rows c = conflicting_claims_convict_at_once-rows

pub returns-clause-counts : goal.returns-clause-counts
returns-clause-counts c = conflicting_claims_convict_at_once-counts
