use Rattle.worked_runs.proofs.Grouped.{more_lies_trim_less}
use Rattle.worked_runs.proofs.more_lies_trim_less.Goals as goal

pub returns : goal.returns
returns c = more_lies_trim_less
