use Rattle.worked_runs.proofs.Changed.{two_rounds_settle_what_one_would_not}
use Rattle.worked_runs.proofs.two_rounds_settle_what_one_would_not.Goals as goal

pub returns : goal.returns
returns c = two_rounds_settle_what_one_would_not
