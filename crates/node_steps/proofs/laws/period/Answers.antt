use Rattle.node_steps.proofs.PeriodFrames.{goes_through}
use Rattle.node_steps.proofs.laws.period.Goals as goal

pub returns : goal.returns
returns c = goes_through c.finds_each.ensures
