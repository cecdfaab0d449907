use Rattle.worked_runs.proofs.Convicted.{an_absent_relay_is_no_voice-rows, an_absent_relay_is_no_voice-counts}
use Rattle.worked_runs.proofs.an_absent_relay_is_no_voice.Goals as goal

pub returns-clause-rows : goal.returns-clause-rows
returns-clause-rows c = an_absent_relay_is_no_voice-rows

pub returns-clause-counts : goal.returns-clause-counts
returns-clause-counts c = an_absent_relay_is_no_voice-counts
