use Rattle.worked_runs.proofs.Changed.{what_is_cut_doubled_or_raw_is_malformed-cut, what_is_cut_doubled_or_raw_is_malformed-twice, what_is_cut_doubled_or_raw_is_malformed-raw, what_is_cut_doubled_or_raw_is_malformed-rows, what_is_cut_doubled_or_raw_is_malformed-counts}
use Rattle.worked_runs.proofs.what_is_cut_doubled_or_raw_is_malformed.Goals as goal

pub returns-clause-cut : goal.returns-clause-cut
returns-clause-cut c = what_is_cut_doubled_or_raw_is_malformed-cut

pub returns-clause-twice : goal.returns-clause-twice
returns-clause-twice c = what_is_cut_doubled_or_raw_is_malformed-twice

pub returns-clause-raw : goal.returns-clause-raw
returns-clause-raw c = what_is_cut_doubled_or_raw_is_malformed-raw

pub returns-clause-rows : goal.returns-clause-rows
returns-clause-rows c = what_is_cut_doubled_or_raw_is_malformed-rows

pub returns-clause-counts : goal.returns-clause-counts
returns-clause-counts c = what_is_cut_doubled_or_raw_is_malformed-counts
